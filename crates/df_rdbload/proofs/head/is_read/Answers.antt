use Rattle.std.proofs.Common.{◌≡◌, ℕ, ◌-◌, ◌<◌, ◌≤◌, inl, inr, Bool, true, false, refl, arith}
use Rattle.std.specs.Prelude.{nat_le}
use Rattle.df_rdbload.specs.Entries.{IsLast}
use Rattle.df_rdbload.proofs.head.is_read.Goals as goal

by_test : (tens ones : ℕ) (b : Bool) → (b ≡ true → IsLast tens ones true) → (b ≡ false → IsLast tens ones false) → IsLast tens ones b
by_test tens ones true p q = p refl
by_test tens ones false p q = q refl

within : (n k : ℕ) → nat_le n k ≡ true → n ≤ k
within n k e = grind arith

beyond : (n k : ℕ) → nat_le n k ≡ false → k < n
beyond n k e = grind arith

nine : (tens ones : ℕ) → tens ≡ 48 → 53 ≤ ones → ones ≤ 57 → IsLast tens ones true
nine tens ones t low high = (ones - 48, (omega arith, omega arith), omega arith, omega arith)

no_nine : (tens ones : ℕ) → tens ≡ 48 → 57 < ones → IsLast tens ones false
no_nine tens ones t far version is p q = omega arith

twelve : (tens ones : ℕ) → tens ≡ 49 → 48 ≤ ones → ones ≤ 50 → IsLast tens ones true
twelve tens ones t low high = (ones - 38, (omega arith, omega arith), omega arith, omega arith)

no_twelve : (tens ones : ℕ) → tens ≡ 49 → 50 < ones → IsLast tens ones false
no_twelve tens ones t far version is p q = let top = is.1 in omega arith

pub returns-then-tens-eq48 : goal.returns-then-tens-eq48
returns-then-tens-eq48 c =
    by_test c.args.tens c.args.ones (nat_le c.args.ones 57) (λ e. nine c.args.tens c.args.ones c.if-tens-eq48.true c.if-ones-lt53.false (within c.args.ones 57 e))
    (λ e. no_nine c.args.tens c.args.ones c.if-tens-eq48.true (beyond c.args.ones 57 e))

pub returns : goal.returns
returns c =
    let one_ten : c.args.tens ≡ 49 = elim c.requires [ inl zero_tens ↦ absurd (c.if-tens-eq48.false zero_tens) | inr is ↦ is ] in
    by_test c.args.tens c.args.ones (nat_le c.args.ones 50) (λ e. twelve c.args.tens c.args.ones one_ten c.if-ones-lt48.false (within c.args.ones 50 e))
    (λ e. no_twelve c.args.tens c.args.ones one_ten (beyond c.args.ones 50 e))
