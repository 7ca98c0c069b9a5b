use Rattle.df_order.proofs.ShardKept.{kept_calls}
use Rattle.df_order.proofs.laws.learning_calls_keeps_a_shard.Goals as goal

pub returns : goal.returns
returns g c = kept_calls _
