use Rattle.df_shardqueue.proofs.Keeps.{begins, chooses}
use Rattle.df_shardqueue.proofs.queue.named.Goals as goal

pub ruled-requires-clause-rule : goal.ruled-requires-clause-rule
ruled-requires-clause-rule g c = begins g.M.Marked.mark

pub another-pass-requires-clause-rule : goal.another-pass-requires-clause-rule
another-pass-requires-clause-rule g c = chooses g.M.Marked.mark _ _ _ c.in_ok-line.ensures.3
