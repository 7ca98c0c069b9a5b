use Rattle.std.proofs.Common.{◌≡◌, ◌+◌, ◌≤◌, length, map, take}
use Rattle.std.specs.Option.{option_map}
use Rattle.df_values.specs.Seen.{seen}
use Rattle.df_core.specs.Due.{with_values}
use Rattle.df_spread.specs.Gathered.{keys_in}
use Rattle.df_spread.proofs.gather.put_values.Given as goal

abbrev pub invariant-keys : goal.invariant-keys
invariant-keys l = record {
  left : with_values (take (length l.values.items) (keys_in l.keys)) (map (option_map seen) l.values.items) l.table.keys
      ≡ with_values (keys_in l.keys) (map (option_map seen) l.fn.values.items) l.fn.table.keys;
  count : length l.values.items ≤ length l.keys;
  spare : l.fn.table.spare + length l.values.items ≤ l.table.spare + length l.keys;
}

abbrev pub decreases-keys : goal.decreases-keys
decreases-keys l = length l.values.items
