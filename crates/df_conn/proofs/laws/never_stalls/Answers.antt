use Rattle.df_conn.proofs.WorkLaws.{never_stalls}
use Rattle.df_conn.proofs.laws.never_stalls.Goals as goal

pub returns : goal.returns
returns c = never_stalls
