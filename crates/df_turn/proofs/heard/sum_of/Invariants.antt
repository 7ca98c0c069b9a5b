use Rattle.std.proofs.Common.{◌≡◌}
use Rattle.df_turn.specs.Heard.{sum_heard}
use Rattle.df_turn.proofs.heard.sum_of.Given as goal

abbrev pub invariant-shards : goal.invariant-shards
invariant-shards l = l.sum ≡ sum_heard l.outcome-index l.outcomes
