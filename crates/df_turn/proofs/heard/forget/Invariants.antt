use Rattle.std.proofs.Common.{◌≡◌, ℕ, ◌<◌, get_or}
use Rattle.std.specs.Prelude.{None}
use Rattle.df_turn.proofs.heard.forget.Given as goal

abbrev pub invariant-shards : goal.invariant-shards
invariant-shards l = (k : ℕ) → k < l.outcome-index → get_or l.outcomes k None ≡ None
