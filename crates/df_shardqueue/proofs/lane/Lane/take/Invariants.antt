use Rattle.std.proofs.Common.{◌≡◌}
use Rattle.df_shardqueue.proofs.lane.Lane.take.Given as goal

abbrev pub invariant-loop : goal.invariant-loop
invariant-loop g l = l.self ≡ l.fn.self
