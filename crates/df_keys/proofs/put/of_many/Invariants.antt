use Rattle.std.proofs.Common.{◌≡◌, ◌≤◌, ◌++◌, length}
use Rattle.df_keys.proofs.put.of_many.Given as goal

abbrev pub invariant-keys : goal.invariant-keys
invariant-keys l = record {
  all : l.keys.items ++ l.key-iterator ≡ l.fn.modes.entries;
  room : length l.key-iterator ≤ l.keys.spare;
}
