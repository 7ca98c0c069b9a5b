use Rattle.std.proofs.Common.{◌≡◌, ◌≤◌, ◌++◌, length}
use Rattle.df_spread.specs.Spread.{changes_seen}
use Rattle.df_spread.specs.Written.{held_by, to_write}
use Rattle.df_spread.proofs.changes.copies_on.Given as goal

abbrev pub invariant-keys : goal.invariant-keys
invariant-keys l = record {
  so_far : changes_seen l.written.items ++ held_by l.table.keys (to_write l.key-iterator.rest.items) ≡ held_by l.table.keys (to_write l.fn.modes.items);
  room : length l.key-iterator.rest.items ≤ l.written.spare;
}
