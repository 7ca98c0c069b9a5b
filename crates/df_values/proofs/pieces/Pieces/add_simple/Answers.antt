use Rattle.df_model.proofs.EncodingLaws.{simple_is}
use Rattle.df_values.proofs.pieces.Pieces.add_simple.Goals as goal

pub returns : goal.returns
returns c = rw simple_is c.add_line.ensures
