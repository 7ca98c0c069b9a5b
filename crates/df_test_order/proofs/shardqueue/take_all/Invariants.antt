use Rattle.std.proofs.Common.{◌≡◌}
use Rattle.df_test_order.proofs.shardqueue.take_all.Given as goal

abbrev pub invariant-slots : goal.invariant-slots
invariant-slots g l = l.lane ≡ l.fn.lane
