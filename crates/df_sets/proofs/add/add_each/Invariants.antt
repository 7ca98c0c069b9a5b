use Rattle.std.proofs.Common.{◌≡◌, ◌≤◌, length}
use Rattle.df_model.specs.Meaning.Sets.{with_members}
use Rattle.df_sets.proofs.add.add_each.Given as goal

abbrev pub invariant-words : goal.invariant-words
invariant-words l = (with_members l.word-iterator.rest.items l.set.members ≡ with_members l.fn.words.items l.fn.set.members) × (length l.word-iterator.rest.items ≤ l.set.spare)
