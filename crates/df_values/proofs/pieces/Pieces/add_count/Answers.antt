use Rattle.std.proofs.Common.{◌≡◌, decimal, ◌∙◌}
use Rattle.df_model.proofs.EncodingLaws.{int_is}
use Rattle.df_values.proofs.pieces.Pieces.add_count.Goals as goal

pub returns : goal.returns
returns c =
    let text : c.as_bytes.result.now ≡ decimal c.args.n = c.as_bytes.ensures.value ∙ c.format.ensures.text in
    rw int_is (rw text at c.add_line.ensures)
