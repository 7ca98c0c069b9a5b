use Rattle.df_model.proofs.CallLaws.{calls_of_sessions}
use Rattle.df_model.proofs.laws.sessions_call.Goals as goal

pub returns : goal.returns
returns c = calls_of_sessions
