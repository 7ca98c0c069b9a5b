use Rattle.std.proofs.Common.{◌≡◌, ◌++◌, length, codes, decimal, ap, ◌∙◌}
use Rattle.df_model.specs.Replies.{crlf}
use Rattle.df_model.proofs.EncodingLaws.{bulk_is}
use Rattle.df_values.proofs.replies.add_in_place.Goals as goal

pub returns-clause-there : goal.returns-clause-there
returns-clause-there c =
    let bytes = c.args.bytes.now in
    let text : c.as_bytes-digits.result.now ≡ decimal (length bytes) = c.as_bytes-digits.ensures.value ∙ c.format.ensures.text in
    rw bulk_is (c.add_bulk.ensures ∙ ap (λ x. c.args.short.now ++ (codes "$" ++ x ++ crlf ++ bytes ++ crlf)) text)
