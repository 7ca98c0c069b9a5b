-- Laws of canonical decimals.
use Rattle.std.proofs.Common.{◌≡◌, ℕ, ◌+◌, ◌-◌, ◌*◌, ◌^◌, ◌<◌, ◌≤◌, List, [], ◌∷◌, refl, sym, suc, length, get_or, drop, drop-cons, arith, true, false}
use Rattle.std.specs.Prelude.{None, cond}
use Rattle.df_model.specs.Numbers.{digits, below, is_digit}

-- a number that is too great stays so
pub too_great : (n : ℕ) (bs : List ℕ) → 2 ^ 64 ≤ n → below (2 ^ 64) (digits n bs) ≡ None
too_great n [] h = grind arith
too_great n (b ∷ bs) h = elim (is_digit b) as (λ t. below (2 ^ 64) (cond t (digits (n * 10 + (b - 48)) bs) None) ≡ None) [
  | true ↦ too_great (n * 10 + (b - 48)) bs (omega arith)
  | false ↦ refl
]

pub too_great_next : (n i : ℕ) (text : List ℕ) → i < length text → 2 ^ 64 ≤ n * 10 + (get_or text i 0 - 48) → None ≡ below (2 ^ 64) (digits n (drop i text))
too_great_next n i text h g = rw (drop-cons text i 0) (elim (is_digit (get_or text i 0)) as (λ t. None ≡ below (2 ^ 64) (cond t (digits (n * 10 + (get_or text i 0 - 48)) (drop (suc i) text)) None)) [
  | true ↦ sym (too_great (n * 10 + (get_or text i 0 - 48)) (drop (suc i) text) g)
  | false ↦ refl
])
