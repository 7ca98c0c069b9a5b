use Rattle.std.proofs.Common.{arith}
use Rattle.df_shard.proofs.Queues.{tail-is}
use Rattle.df_shard.proofs.queueing.limit_for.Goals as goal

pub returns-then-number-tail-clause-high : goal.returns-then-number-tail-clause-high
returns-then-number-tail-clause-high c = (c.if-number-tail.true, tail-is c.in-Some.tail c.args.queue.now.places c.in-Some.ensures.newest)

pub returns-else-number-tail-clause-low : goal.returns-else-number-tail-clause-low
returns-else-number-tail-clause-low c = omega (arith, c.if-number-tail.false, tail-is c.in-Some.tail c.args.queue.now.places c.in-Some.ensures.newest)
