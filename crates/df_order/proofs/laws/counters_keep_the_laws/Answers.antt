use Rattle.df_order.proofs.CounterLaws.{counters_keep}
use Rattle.df_order.proofs.laws.counters_keep_the_laws.Goals as goal

pub returns : goal.returns
returns c = counters_keep
