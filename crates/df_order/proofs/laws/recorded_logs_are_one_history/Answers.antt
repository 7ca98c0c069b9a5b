use Rattle.df_order.proofs.LogsAlone.{legal, items_rise}
use Rattle.df_order.specs.Histories.{executed}
use Rattle.df_order.proofs.laws.recorded_logs_are_one_history.Goals as goal

pub returns-clause-legal : goal.returns-clause-legal
returns-clause-legal g c = legal _

pub returns-clause-rising : goal.returns-clause-rising
returns-clause-rising g c = λ calls count logs replies. items_rise g.C.Commands.model calls logs replies (executed g.C.Commands.model calls logs) 1 count
