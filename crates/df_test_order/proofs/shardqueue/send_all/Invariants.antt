use Rattle.std.proofs.Common.{◌≡◌}
use Rattle.df_test_order.proofs.shardqueue.send_all.Given as goal

abbrev pub invariant-numbers : goal.invariant-numbers
invariant-numbers g l = l.lane ≡ l.fn.lane
