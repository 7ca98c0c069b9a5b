use Rattle.df_order.proofs.ShardKept.{kept_first}
use Rattle.df_order.proofs.laws.first_shard_is_kept.Goals as goal

pub returns : goal.returns
returns g c = kept_first _
