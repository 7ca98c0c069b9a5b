use Rattle.std.proofs.Common.{◌≡◌, ℕ, ◌<◌, ◌≤◌, get_or, length}
use Rattle.std.specs.Prelude.{None}
use Rattle.df_spread.specs.Spread.{values_at}
use Rattle.df_turn.specs.Heard.{values_heard}
use Rattle.df_turn.proofs.heard.all_values.Given as goal

-- the values so far; the other answers are still there
abbrev pub invariant-shards : goal.invariant-shards
invariant-shards l = record {
  count : length l.values.items ≡ l.outcome-index;
  values : (k : ℕ) → k < l.outcome-index → values_at l.values.items k ≡ values_heard (get_or l.initial.outcomes k None);
  left : (k : ℕ) → l.outcome-index ≤ k → get_or l.outcomes k None ≡ get_or l.initial.outcomes k None;
}
