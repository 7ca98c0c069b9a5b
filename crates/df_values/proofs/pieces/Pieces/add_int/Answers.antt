use Rattle.std.proofs.Common.{◌≡◌, ap, ◌∙◌}
use Rattle.std.specs.Fmt.{signed_decimal}
use Rattle.std.proofs.Math.Facts.{to_z-of_z}
use Rattle.df_model.proofs.EncodingLaws.{int_is}
use Rattle.df_values.proofs.pieces.Pieces.add_int.Goals as goal

pub returns : goal.returns
returns c =
    let text : c.as_bytes.result.now ≡ signed_decimal c.args.n = c.as_bytes.ensures.value ∙ c.format.ensures.text ∙ ap signed_decimal (to_z-of_z c.ranges.n) in
    rw int_is (rw text at c.add_line.ensures)
