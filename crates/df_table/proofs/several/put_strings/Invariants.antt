use Rattle.std.proofs.Common.{◌≡◌, ◌≤◌, length}
use Rattle.df_model.specs.Meaning.Strings.{with_strings}
use Rattle.df_table.proofs.several.put_strings.Given as goal

abbrev pub invariant-pairs : goal.invariant-pairs
invariant-pairs l = record {
  left : with_strings l.key-iterator.rest.items l.table.keys ≡ with_strings l.fn.pairs.items l.fn.table.keys;
  room : length l.key-iterator.rest.items ≤ l.table.spare;
  kept : l.table.kept ≡ l.fn.table.kept;
}
