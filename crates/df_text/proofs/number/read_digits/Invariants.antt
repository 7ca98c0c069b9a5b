use Rattle.std.proofs.Common.{◌≡◌, drop}
use Rattle.df_model.specs.Numbers
use Rattle.df_text.proofs.number.read_digits.Given as goal

abbrev pub invariant-digits : goal.invariant-digits
invariant-digits l = Numbers.digits 0 l.text ≡ Numbers.digits l.number (drop l.byte-index l.text)
