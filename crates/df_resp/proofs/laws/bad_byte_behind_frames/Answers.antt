use Rattle.df_resp.proofs.FramedLaws.{bad_at_behind}
use Rattle.df_resp.proofs.laws.bad_byte_behind_frames.Goals as goal

pub returns : goal.returns
returns c = bad_at_behind
