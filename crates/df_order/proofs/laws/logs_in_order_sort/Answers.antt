use Rattle.df_order.proofs.Commute.{sorted}
use Rattle.df_order.proofs.laws.logs_in_order_sort.Goals as goal

pub returns : goal.returns
returns g c = λ laws calls s n start log. sorted _ laws calls s n start log
