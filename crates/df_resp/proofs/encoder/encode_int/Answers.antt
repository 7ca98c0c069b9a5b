use Rattle.std.proofs.Common.{◌++◌, codes, ap, sym, ◌∙◌}
use Rattle.std.specs.Fmt.{signed_decimal}
use Rattle.std.proofs.Math.Facts.{to_z-of_z}
use Rattle.df_model.specs.Replies.{crlf}
use Rattle.df_model.proofs.EncodingLaws.{int_is}
use Rattle.df_resp.proofs.encoder.encode_int.Goals as goal

pub returns-clause-ok : goal.returns-clause-ok
returns-clause-ok c =
    c.in_default.ensures.ok
    ∙ ap (λ n. c.args.to.now.items ++ (codes ":" ++ signed_decimal n ++ crlf)) (to_z-of_z c.ranges.n)
    ∙ ap (λ x. c.args.to.now.items ++ x) (sym (int_is c.args.n))
