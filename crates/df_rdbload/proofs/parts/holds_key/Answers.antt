use Rattle.std.proofs.Common.{◌≡◌, ℕ, ◌<◌, ◌≤◌, true, false, arith}
use Rattle.std.specs.Prelude.{nat_lt}
use Rattle.df_rdbload.proofs.ValueLaws.{low_holds, on_true, on_false, no_high}
use Rattle.df_rdbload.proofs.parts.holds_key.Goals as goal

below : (n k : ℕ) → nat_lt n k ≡ true → n < k
below n k e = grind arith

above : (n k : ℕ) → nat_lt n k ≡ false → k ≤ n
above n k e = grind arith

pub returns-clause-yes : goal.returns-clause-yes
returns-clause-yes c = on_true (nat_lt c.args.first 3) _ (λ e. low_holds c.args.first (below c.args.first 3 e))

pub returns-clause-no : goal.returns-clause-no
returns-clause-no c = on_false (nat_lt c.args.first 3) _ (λ e. no_high c.args.first (above c.args.first 3 e) c.if-first-eq4.false)
