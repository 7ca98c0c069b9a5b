use Rattle.df_rounds.proofs.OverLaws.{over_is_done, stop_is_done}
use Rattle.df_rounds.proofs.laws.over_is_done.Goals as goal

pub returns-clause-over : goal.returns-clause-over
returns-clause-over c = over_is_done

pub returns-clause-stopped : goal.returns-clause-stopped
returns-clause-stopped c = stop_is_done
