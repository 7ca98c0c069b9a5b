use Rattle.df_shardqueue.proofs.Keeps.{pops, tells}
use Rattle.df_shardqueue.proofs.queue.ShardQueue.pop.Goals as goal

pub pop_as-requires-clause-rule : goal.pop_as-requires-clause-rule
pop_as-requires-clause-rule g c = (pops g.M.Marked.mark _ _ c.requires.1.0, tells g.M.Marked.mark _ _)
