use Rattle.std.proofs.Common.{◌++◌, ap, sym, ◌∙◌}
use Rattle.std.specs.Prelude.{pos}
use Rattle.df_model.proofs.EncodingLaws.{int_is}
use Rattle.df_resp.proofs.encoder.encode_count.Goals as goal

pub returns-clause-ok : goal.returns-clause-ok
returns-clause-ok c = c.in_default.ensures.ok ∙ ap (λ x. c.args.to.now.items ++ x) (sym (int_is (pos c.args.n)))
