use Rattle.df_order.proofs.ShardKept.{kept_enter, kept_hop}
use Rattle.df_order.proofs.laws.hops_keep_a_shard.Goals as goal

pub returns-clause-in_order : goal.returns-clause-in_order
returns-clause-in_order g c = kept_enter _

pub returns-clause-in_turn : goal.returns-clause-in_turn
returns-clause-in_turn g c = kept_hop _
