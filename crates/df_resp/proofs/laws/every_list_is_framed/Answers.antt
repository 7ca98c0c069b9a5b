use Rattle.df_resp.proofs.FramedLaws.{every_list_is_framed}
use Rattle.df_resp.proofs.laws.every_list_is_framed.Goals as goal

pub returns : goal.returns
returns c = every_list_is_framed
