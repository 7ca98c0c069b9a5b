use Rattle.df_resp.proofs.FramedLaws.{framed_is_unique}
use Rattle.df_resp.proofs.laws.framing_is_unique.Goals as goal

pub returns : goal.returns
returns c = framed_is_unique
