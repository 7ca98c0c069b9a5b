use Rattle.df_order.proofs.ShardKept.{kept_leave}
use Rattle.df_order.proofs.laws.leaving_keeps_a_shard.Goals as goal

pub returns : goal.returns
returns g c = kept_leave _
