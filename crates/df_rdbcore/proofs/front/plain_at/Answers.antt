use Rattle.df_rdbcore.proofs.SeenLaws.{awaits_text}
use Rattle.df_rdbcore.proofs.front.plain_at.Goals as goal

pub returns-in-More : goal.returns-in-More
returns-in-More c = awaits_text c.args.bytes.now c.requires.low c.in-More.ensures
