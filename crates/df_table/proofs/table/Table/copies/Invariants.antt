use Rattle.std.proofs.Common.{◌≡◌, ◌≤◌, ◌++◌, drop, map, length}
use Rattle.std.specs.Option.{option_map}
use Rattle.df_model.specs.Keyspace.{held}
use Rattle.df_values.specs.Seen.{seen}
use Rattle.df_table.proofs.table.Table.copies.Given as goal

abbrev pub invariant-keys : goal.invariant-keys
invariant-keys l = record {
  so_far : map (option_map seen) l.copied.items ++ map (held l.self.keys) (drop l.key-index l.key-items) ≡ map (held l.self.keys) l.key-items;
  room : length (drop l.key-index l.key-items) ≤ l.copied.spare;
}
