use Rattle.df_core.proofs.CallsLaws.{calls_laws}
use Rattle.df_core.proofs.HistoryLaws.{one_history, saves_stand}
use Rattle.df_core.proofs.laws.listed.Goals as goal

pub returns-clause-legal : goal.returns-clause-legal
returns-clause-legal c = one_history calls_laws

pub returns-clause-saves : goal.returns-clause-saves
returns-clause-saves c = saves_stand calls_laws
