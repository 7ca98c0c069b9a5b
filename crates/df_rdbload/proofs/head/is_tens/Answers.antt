use Rattle.std.proofs.Common.{◌≡◌, ℕ, true, false, inl, inr, arith}
use Rattle.std.specs.Prelude.{nat_eq, ◌⊎◌}
use Rattle.df_rdbload.proofs.ValueLaws.{on_true, on_false}
use Rattle.df_rdbload.proofs.head.is_tens.Goals as goal

same : (n k : ℕ) → nat_eq n k ≡ true → n ≡ k
same n k e = grind arith

other : (n k : ℕ) → nat_eq n k ≡ false → n ≡ k → ⊥
other n k e is = grind arith

neither : (n : ℕ) → (n ≡ 48 → ⊥) → (n ≡ 49 → ⊥) → (n ≡ 48) ⊎ (n ≡ 49) → ⊥
neither n a b (inl is) = a is
neither n a b (inr is) = b is

pub returns-clause-yes : goal.returns-clause-yes
returns-clause-yes c = on_true (nat_eq c.args.tens 49) _ (λ e. inr (same c.args.tens 49 e))

pub returns-clause-no : goal.returns-clause-no
returns-clause-no c = on_false (nat_eq c.args.tens 49) _ (λ e. neither c.args.tens c.if-tens-eq48.false (other c.args.tens 49 e))
