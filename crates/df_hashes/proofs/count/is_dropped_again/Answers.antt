use Rattle.df_hashes.proofs.MetLaws.{met_again}
use Rattle.df_hashes.proofs.count.is_dropped_again.Goals as goal

pub returns-in-Some : goal.returns-in-Some
returns-in-Some c = met_again c.meet.result c.args.met.now c.in-Some.set c.meet.new.met c.args.word.now c.args.behind.now c.in-Some.is c.requires c.meet.ensures
