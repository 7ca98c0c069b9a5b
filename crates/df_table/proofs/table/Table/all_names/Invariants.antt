use Rattle.std.proofs.Common.{◌≡◌, ◌≤◌, ◌++◌, drop, map, length}
use Rattle.df_table.proofs.table.Table.all_names.Given as goal

abbrev pub invariant-names : goal.invariant-names
invariant-names l = record {
  so_far : l.names.items ++ map (λ name. name.now) (drop l.name-index l.name-items) ≡ map (λ name. name.now) l.name-items;
  room : length (drop l.name-index l.name-items) ≤ l.names.spare;
}
