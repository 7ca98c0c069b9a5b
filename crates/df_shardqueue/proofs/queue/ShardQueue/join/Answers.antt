use Rattle.df_shardqueue.proofs.Keeps.{merges, tells}
use Rattle.df_shardqueue.proofs.queue.ShardQueue.join.Goals as goal

pub absorb-requires-clause-rule : goal.absorb-requires-clause-rule
absorb-requires-clause-rule g c = merges g.M.Marked.mark _ _ _ _ c.requires.0.1.0

pub learn_as-requires-clause-rule : goal.learn_as-requires-clause-rule
learn_as-requires-clause-rule g c = tells g.M.Marked.mark _ _
