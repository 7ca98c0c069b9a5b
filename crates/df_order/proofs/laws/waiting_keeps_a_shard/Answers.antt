use Rattle.df_order.proofs.ShardKept.{kept_enqueue}
use Rattle.df_order.proofs.laws.waiting_keeps_a_shard.Goals as goal

pub returns : goal.returns
returns g c = kept_enqueue _
