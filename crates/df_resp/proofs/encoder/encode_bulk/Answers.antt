use Rattle.std.proofs.Common.{◌++◌, ap, sym, ◌∙◌}
use Rattle.df_model.proofs.EncodingLaws.{bulk_is}
use Rattle.df_resp.proofs.encoder.encode_bulk.Goals as goal

pub returns-clause-ok : goal.returns-clause-ok
returns-clause-ok c = c.in_default.ensures.ok ∙ ap (λ x. c.args.to.now.items ++ x) (sym (bulk_is c.args.bytes.now))
