use Rattle.std.proofs.Common.{◌+◌, ◌*◌, ◌∙◌, ap, arith}
use Rattle.df_rdbcore.specs.Crc.{shifts}
use Rattle.df_rdbcore.proofs.TableLaws.{at_far_tables}
use Rattle.df_rdbcore.proofs.crc.moved_far.Goals as goal

pub returns : goal.returns
returns c = at_far_tables c.args.zeros c.from.result c.requires (omega arith) ∙ ap (shifts (8 * c.args.zeros + 200)) c.from.ensures
