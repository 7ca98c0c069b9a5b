use Rattle.std.proofs.Common.{◌≡◌, ◌≤◌, length}
use Rattle.df_model.specs.Meaning.Hashes.{with_fields}
use Rattle.df_values.proofs.edit.put_fields.Given as goal

abbrev pub invariant-pairs : goal.invariant-pairs
invariant-pairs l = (with_fields l.field-iterator.rest.items l.hash.fields ≡ with_fields l.fn.pairs.items l.fn.hash.fields) × (length l.field-iterator.rest.items ≤ l.hash.spare)
