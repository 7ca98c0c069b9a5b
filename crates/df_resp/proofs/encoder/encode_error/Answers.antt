use Rattle.std.proofs.Common.{◌++◌, ap, sym, ◌∙◌}
use Rattle.df_model.proofs.EncodingLaws.{error_is}
use Rattle.df_resp.proofs.encoder.encode_error.Goals as goal

pub returns-clause-ok : goal.returns-clause-ok
returns-clause-ok c = c.in_default.ensures.ok ∙ ap (λ x. c.args.to.now.items ++ x) (sym (error_is c.args.error.now))
