use Rattle.df_model.specs.Reads.{reads}
use Rattle.df_parse.proofs.read.read_linked.Goals as goal

pub returns-in-Err-clause-read : goal.returns-in-Err-clause-read
returns-in-Err-clause-read c = c.known.ensures (reads c.args.words.now) c.in-Err.ensures
