use Rattle.std.proofs.Common.{◌≡◌}
use Rattle.df_model.specs.Meaning.Sets.{without_members}
use Rattle.df_values.proofs.edit.drop_members.Given as goal

abbrev pub invariant-words : goal.invariant-words
invariant-words l = without_members l.word-iterator.rest.items l.set.members ≡ without_members l.fn.words.items l.fn.set.members
