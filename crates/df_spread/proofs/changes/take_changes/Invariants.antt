use Rattle.std.proofs.Common.{◌≡◌, ◌++◌, map}
use Rattle.df_spread.specs.Spread.{changes_seen}
use Rattle.df_spread.specs.Written.{changed, AreApart}
use Rattle.df_spread.proofs.changes.take_changes.Given as goal

abbrev pub invariant-shards : goal.invariant-shards
invariant-shards l = record {
  so_far : map (λ c. changes_seen c.items) l.changes.items ++ map (changed l.table.keys) (map (λ w. changes_seen w.items) l.written-iterator.rest.items)
      ≡ map (changed l.fn.table.keys) (map (λ w. changes_seen w.items) l.fn.written.items);
  apart : AreApart (map (λ w. changes_seen w.items) l.written-iterator.rest.items);
}
