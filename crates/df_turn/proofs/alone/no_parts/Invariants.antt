use Rattle.std.proofs.Common.{◌≡◌, ℕ, length}
use Rattle.std.specs.Prelude.{None}
use Rattle.df_turn.specs.Turns.{part_for}
use Rattle.df_turn.proofs.alone.no_parts.Given as goal

-- a place for each shard so far, and nothing there
abbrev pub invariant-shards : goal.invariant-shards
invariant-shards l = record {
  count : length l.parts.items ≡ l._shard;
  parts : (k : ℕ) → part_for k l.parts.items ≡ None;
}
