use Rattle.df_order.proofs.ShardKept.{kept_at_once}
use Rattle.df_order.proofs.laws.running_at_once_keeps_a_shard.Goals as goal

pub returns : goal.returns
returns g c = kept_at_once _
