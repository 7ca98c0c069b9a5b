use Rattle.df_model.specs.Meaning.{firsts}
use Rattle.df_hashes.proofs.MetLaws.{met_again}
use Rattle.df_hashes.proofs.count.is_put_again.Goals as goal

pub returns-in-Some : goal.returns-in-Some
returns-in-Some c = met_again c.meet.result c.args.met.now c.in-Some.set c.meet.new.met c.args.field.now (firsts c.args.behind.now) c.in-Some.is c.requires c.meet.ensures
