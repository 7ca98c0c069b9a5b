use Rattle.std.proofs.Common.{◌≡◌, ◌++◌, map}
use Rattle.df_spread.specs.Spread.{changes_seen}
use Rattle.df_spread.specs.Written.{held_by, to_write}
use Rattle.df_spread.proofs.changes.copies_of_written.Given as goal

abbrev pub invariant-shards : goal.invariant-shards
invariant-shards l =
    map (λ w. changes_seen w.items) l.written.items ++ map (λ modes. held_by l.table.keys (to_write modes.items)) l.modes-iterator.rest.items
    ≡ map (λ modes. held_by l.table.keys (to_write modes.items)) l.fn.keys.items
