use Rattle.std.specs.Prelude.{Some}
use Rattle.df_shardqueue.proofs.queue.ShardQueue.new.Given as goal

abbrev pub ghost-named : goal.ghost-named
ghost-named g a = g.mark

abbrev pub ghosts-named : goal.ghosts-named
ghosts-named g a = record { name = Some g.mark }
