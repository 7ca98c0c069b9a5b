use Rattle.std.proofs.Common.{◌≡◌}
use Rattle.df_model.specs.Meaning.Hashes.{without_fields}
use Rattle.df_values.proofs.edit.drop_fields.Given as goal

abbrev pub invariant-words : goal.invariant-words
invariant-words l = without_fields l.word-iterator.rest.items l.hash.fields ≡ without_fields l.fn.words.items l.fn.hash.fields
