use Rattle.std.proofs.Common.{arith, refl, sym}
use Rattle.df_model.specs.Reads.{rows}
use Rattle.df_parse.specs.Parts.{initial, is_h, only}
use Rattle.df_parse.proofs.PartLaws.{none_outside}
use Rattle.df_parse.proofs.table.rows_of.Goals as goal

pub returns-in_default : goal.returns-in_default
returns-in_default c =
    rw c.in-H.is (sym (none_outside 4 7 c.args.length (only (λ name. is_h (initial name)) rows) refl (grind (arith, c.in_default))))
