use Rattle.df_sessions.proofs.EndLaws as list
use Rattle.df_sessions.proofs.laws.promises_a_list.Goals as goal

pub returns : goal.returns
returns c = list.promises_a_list
