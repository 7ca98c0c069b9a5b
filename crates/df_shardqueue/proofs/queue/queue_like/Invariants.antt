use Rattle.df_shardqueue.proofs.queue.queue_like.Given as goal

abbrev pub ghost-named_like : goal.ghost-named_like
ghost-named_like g a = g.M.Marked.mark a.like.now
