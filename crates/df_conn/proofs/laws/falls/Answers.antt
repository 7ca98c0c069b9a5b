use Rattle.df_conn.proofs.WorkLaws.{falls}
use Rattle.df_conn.proofs.laws.falls.Goals as goal

pub returns : goal.returns
returns c = falls
