use Rattle.df_order.proofs.ShardKept.{ran_most, free_clash, may_run_low, queued_order}
use Rattle.df_order.proofs.laws.kept_shards_know_who_conflicts.Goals as goal

pub returns-clause-ran : goal.returns-clause-ran
returns-clause-ran g c = ran_most _

pub returns-clause-free : goal.returns-clause-free
returns-clause-free g c = free_clash _

pub returns-clause-turn : goal.returns-clause-turn
returns-clause-turn g c = may_run_low _

pub returns-clause-waiting : goal.returns-clause-waiting
returns-clause-waiting g c = queued_order _
