use Rattle.std.proofs.Common.{◌≡◌, ℕ, ◌≤◌, get_or}
use Rattle.std.specs.Prelude.{None}
use Rattle.df_turn.specs.Heard.{all_names}
use Rattle.df_turn.proofs.heard.all_names.Given as goal

-- the names so far; the other answers are still there
abbrev pub invariant-shards : goal.invariant-shards
invariant-shards l = record {
  names : l.names.members ≡ all_names l.outcome-index l.initial.outcomes;
  left : (k : ℕ) → l.outcome-index ≤ k → get_or l.outcomes k None ≡ get_or l.initial.outcomes k None;
}
