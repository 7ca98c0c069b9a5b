use Rattle.df_model.proofs.EncodingLaws.{null_is}
use Rattle.df_values.proofs.pieces.Pieces.add_null.Goals as goal

pub returns : goal.returns
returns c = rw null_is c.add.ensures.ok
