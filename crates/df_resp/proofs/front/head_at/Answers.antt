use Rattle.std.proofs.Common.{sym, ◌∙◌}
use Rattle.df_resp.proofs.SeenLaws.{sees_line}
use Rattle.df_resp.proofs.front.head_at.Goals as goal

pub returns : goal.returns
returns c = sees_line c.line_at.result c.args.bytes.now (sym c.is_null.ensures ∙ c.if-is_null.false) c.line_at.ensures
