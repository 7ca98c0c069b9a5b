use Rattle.df_shardqueue.proofs.Keeps.{pushes, tells}
use Rattle.df_shardqueue.proofs.queue.ShardQueue.push.Goals as goal

pub push_as-requires-clause-rule : goal.push_as-requires-clause-rule
push_as-requires-clause-rule g c = (pushes g.M.Marked.mark _ _ _ _ c.requires.queue.1.0 c.requires.marked, tells g.M.Marked.mark _ _)
