use Rattle.std.proofs.Common.{arith}
use Rattle.df_text.proofs.DigitLaws.{too_great_next}
use Rattle.df_text.proofs.number.read_digits.Goals as goal

pub returns-then-number-digit : goal.returns-then-number-digit
returns-then-number-digit c = rw c.digits.invariant (too_great_next c.digits.number c.digits.byte-index c.args.text.now (omega arith) (omega arith))
