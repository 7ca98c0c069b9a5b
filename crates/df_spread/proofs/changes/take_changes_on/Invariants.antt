use Rattle.std.proofs.Common.{◌≡◌, ◌≤◌, ◌++◌, false, length}
use Rattle.df_model.specs.Values.{Bytes}
use Rattle.df_model.specs.Keyspace.{held}
use Rattle.df_model.specs.Access.{among}
use Rattle.df_spread.specs.Spread.{changes_seen}
use Rattle.df_spread.specs.Written.{changed, keys_of_changes, IsEachOnce}
use Rattle.df_spread.proofs.changes.take_changes_on.Given as goal

abbrev pub invariant-keys : goal.invariant-keys
invariant-keys l = record {
  so_far : changes_seen l.changes.items ++ changed l.table.keys (changes_seen l.key-iterator.rest.items) ≡ changed l.fn.table.keys (changes_seen l.fn.written.items);
  once : IsEachOnce (keys_of_changes (changes_seen l.key-iterator.rest.items));
  room : length l.key-iterator.rest.items ≤ l.changes.spare;
  others : (key : Bytes) → among (keys_of_changes (changes_seen l.fn.written.items)) key ≡ false →
      (among (keys_of_changes (changes_seen l.key-iterator.rest.items)) key ≡ false) × (held l.table.keys key ≡ held l.fn.table.keys key);
}
