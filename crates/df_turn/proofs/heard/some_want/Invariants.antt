use Rattle.std.proofs.Common.{◌≡◌}
use Rattle.df_turn.specs.Heard.{some_want}
use Rattle.df_turn.proofs.heard.some_want.Given as goal

abbrev pub invariant-shards : goal.invariant-shards
invariant-shards l = l.wanted ≡ some_want l.outcome-index l.outcomes
