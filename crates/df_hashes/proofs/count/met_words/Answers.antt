use Rattle.df_hashes.proofs.MetLaws.{knows_none}
use Rattle.df_hashes.proofs.count.met_words.Goals as goal

pub returns : goal.returns
returns c = knows_none c.new.result c.new.ensures
