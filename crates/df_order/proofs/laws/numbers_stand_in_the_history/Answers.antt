use Rattle.df_order.proofs.LogsAlone.{number_stands}
use Rattle.df_order.proofs.laws.numbers_stand_in_the_history.Goals as goal

pub returns : goal.returns
returns g c = number_stands _
