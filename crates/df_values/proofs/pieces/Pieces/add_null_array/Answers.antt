use Rattle.df_model.proofs.EncodingLaws.{null_array_is}
use Rattle.df_values.proofs.pieces.Pieces.add_null_array.Goals as goal

pub returns : goal.returns
returns c = rw null_array_is c.add.ensures.ok
