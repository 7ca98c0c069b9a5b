use Rattle.df_core.proofs.OneDueLaws.{one_due}
use Rattle.df_core.proofs.laws.due_is_one.Goals as goal

pub returns : goal.returns
returns c = one_due
