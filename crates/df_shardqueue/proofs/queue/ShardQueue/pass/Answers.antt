use Rattle.df_shardqueue.proofs.Keeps.{halves}
use Rattle.df_shardqueue.proofs.queue.ShardQueue.pass.Goals as goal

pub another-requires-clause-rule : goal.another-requires-clause-rule
another-requires-clause-rule g c = halves g.M.Marked.mark _ _
