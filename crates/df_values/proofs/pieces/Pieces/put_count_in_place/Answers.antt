use Rattle.std.proofs.Common.{◌++◌, codes, sym, ap, ◌∙◌}
use Rattle.std.specs.Prelude.{pos}
use Rattle.df_model.specs.Replies.{crlf}
use Rattle.df_model.proofs.EncodingLaws.{int_is}
use Rattle.df_values.proofs.pieces.Pieces.put_count_in_place.Goals as goal

pub returns : goal.returns
returns c =
    let digits = c.as_bytes.ensures.value ∙ c.format.ensures.text in
    c.add_line.ensures
    ∙ ap (λ x. x ++ (codes ":" ++ c.as_bytes.result.now ++ crlf)) c.new-short.ensures
    ∙ ap (λ x. codes ":" ++ x ++ crlf) digits
    ∙ sym (int_is (pos c.args.n))
