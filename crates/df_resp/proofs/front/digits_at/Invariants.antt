use Rattle.std.proofs.Common.{◌≡◌, ◌≤◌, drop}
use Rattle.df_resp.specs.Lines.{digits}
use Rattle.df_resp.proofs.front.digits_at.Given as goal

abbrev pub invariant-digits : goal.invariant-digits
invariant-digits l = record {
  value_fits : l.value ≤ l.limit;
  left : digits l.kind l.limit l.value (drop l.i l.bytes) ≡ digits l.kind l.limit l.first (drop 2 l.bytes);
}
