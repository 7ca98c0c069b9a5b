use Rattle.df_order.proofs.ShardKept.{kept_good}
use Rattle.df_order.proofs.laws.staged_is_its_calls.Goals as goal

pub returns : goal.returns
returns g c = kept_good _
