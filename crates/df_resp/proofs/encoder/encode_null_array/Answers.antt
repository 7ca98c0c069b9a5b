use Rattle.std.proofs.Common.{◌++◌, ap, sym, ◌∙◌}
use Rattle.df_model.proofs.EncodingLaws.{null_array_is}
use Rattle.df_resp.proofs.encoder.encode_null_array.Goals as goal

pub returns-clause-ok : goal.returns-clause-ok
returns-clause-ok c = c.in_ok-extend_from_slice.ensures.items ∙ ap (λ x. c.args.to.now.items ++ x) (sym null_array_is)
