use Rattle.std.proofs.Common.{◌≡◌}
use Rattle.std.specs.Prelude.{Some}
use Rattle.df_shardqueue.proofs.lane.Lane.give.Given as goal

abbrev pub invariant-loop : goal.invariant-loop
invariant-loop g l = (l.self ≡ Some (g.M.Marked.mark l.m)) × (l.self ≡ l.fn.self)
