use Rattle.df_shardqueue.proofs.queue.named_like.Given as goal

abbrev pub ghost-new : goal.ghost-new
ghost-new g a = g.mark
