use Rattle.std.proofs.Common.{◌++◌, ap, sym, ◌∙◌}
use Rattle.df_model.proofs.EncodingLaws.{simple_is}
use Rattle.df_resp.proofs.encoder.encode_simple.Goals as goal

pub returns-clause-ok : goal.returns-clause-ok
returns-clause-ok c = c.in_default.ensures.ok ∙ ap (λ x. c.args.to.now.items ++ x) (sym (simple_is c.args.text.now))
