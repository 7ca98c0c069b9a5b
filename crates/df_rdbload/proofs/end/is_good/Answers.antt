use Rattle.std.proofs.Common.{◌≡◌, ℕ, true, false, inl, inr, arith}
use Rattle.std.specs.Prelude.{nat_eq, ◌⊎◌}
use Rattle.df_rdbload.proofs.ValueLaws.{on_true, on_false}
use Rattle.df_rdbload.proofs.end.is_good.Goals as goal

same : (n k : ℕ) → nat_eq n k ≡ true → n ≡ k
same n k e = grind arith

other : (n k : ℕ) → nat_eq n k ≡ false → n ≡ k → ⊥
other n k e is = grind arith

neither : (n k : ℕ) → (n ≡ 0 → ⊥) → (n ≡ k → ⊥) → (n ≡ 0) ⊎ (n ≡ k) → ⊥
neither n k a b (inl is) = a is
neither n k a b (inr is) = b is

pub returns-clause-yes : goal.returns-clause-yes
returns-clause-yes c = on_true (nat_eq c.args.stored c.args.computed) _ (λ e. inr (same c.args.stored c.args.computed e))

pub returns-clause-no : goal.returns-clause-no
returns-clause-no c = on_false (nat_eq c.args.stored c.args.computed) _ (λ e. neither c.args.stored c.args.computed c.if-stored-eq0.false (other c.args.stored c.args.computed e))
