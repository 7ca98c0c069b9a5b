-- Facts of all elements, after a write, a push and a removal.
use Rattle.std.proofs.Common.{◌≡◌, inl, inr, ℕ, zero, suc, ◌+◌, ◌-◌, ◌≤◌, ◌<◌, List, [], ◌∷◌, ◌++◌, length, get_or, set, take, sym, subst, arith}
use Rattle.std.specs.List.{AllByRecursion, sum_by, swap_remove}
use Rattle.std.proofs.lemmas.List.Sums.{sum_by-cons, sum_by-swap_remove}
use Rattle.std.proofs.lemmas.List.{length-set, length-take-le, set-set, get_or-set_other, take-set-le}
use Rattle.std.proofs.Math.Nat.{eq-or-lt_of_le}

module _ {X : Type 0} where
  pub all_set : (P : X → Type 0) (xs : List X) (i : ℕ) (y : X) → AllByRecursion P xs → P y → AllByRecursion P (set xs i y)
  all_set P [] i y a p = tt
  all_set P (x ∷ xs) zero y a p = (p, a.1)
  all_set P (x ∷ xs) (suc i) y a p = (a.0, all_set P xs i y a.1 p)

  pub all_get : (P : X → Type 0) (xs : List X) (i : ℕ) (d : X) → AllByRecursion P xs → i < length xs → P (get_or xs i d)
  all_get P [] i d a lt = absurd (omega (arith, lt))
  all_get P (x ∷ xs) zero d a lt = a.0
  all_get P (x ∷ xs) (suc i) d a lt = all_get P xs i d a.1 (omega (arith, lt))

  pub all_take : (P : X → Type 0) (n : ℕ) (xs : List X) → AllByRecursion P xs → AllByRecursion P (take n xs)
  all_take P zero xs a = tt
  all_take P (suc n) [] a = tt
  all_take P (suc n) (x ∷ xs) a = (a.0, all_take P n xs a.1)

  pub all_get_any : (P : X → Type 0) (xs : List X) (i : ℕ) (d : X) → AllByRecursion P xs → P d → P (get_or xs i d)
  all_get_any P [] i d a p = p
  all_get_any P (x ∷ xs) zero d a p = a.0
  all_get_any P (x ∷ xs) (suc i) d a p = all_get_any P xs i d a.1 p

  pub all_without : (P : X → Type 0) (xs : List X) (i : ℕ) (d : X) → AllByRecursion P xs → P d → AllByRecursion P (swap_remove xs i d)
  all_without P xs i d a p = all_take P (length xs - 1) (set xs i (get_or xs (length xs - 1) d)) (all_set P xs i (get_or xs (length xs - 1) d) a (all_get_any P xs (length xs - 1) d a p))

  pub all_push : (P : X → Type 0) (xs : List X) (y : X) → AllByRecursion P xs → P y → AllByRecursion P (xs ++ y ∷ [])
  all_push P [] y a p = (p, tt)
  all_push P (x ∷ xs) y a p = (a.0, all_push P xs y a.1 p)

  pub all_map : (P Q : X → Type 0) (xs : List X) → ((x : X) → P x → Q x) → AllByRecursion P xs → AllByRecursion Q xs
  all_map P Q [] f a = tt
  all_map P Q (x ∷ xs) f a = (f x a.0, all_map P Q xs f a.1)

  pub all_three : (P Q R S : X → Type 0) (xs : List X) → ((x : X) → P x → Q x → R x → S x) → AllByRecursion P xs → AllByRecursion Q xs → AllByRecursion R xs → AllByRecursion S xs
  all_three P Q R S [] f a b c = tt
  all_three P Q R S (x ∷ xs) f a b c = (f x a.0 b.0 c.0, all_three P Q R S xs f a.1 b.1 c.1)

  -- one term of a sum
  pub sum_ge : (f : X → ℕ) (xs : List X) (i : ℕ) (d : X) → i < length xs → f (get_or xs i d) ≤ sum_by f xs
  sum_ge f xs i d lt = omega (arith, sum_by-swap_remove f xs i d lt)

  -- where no element counts
  pub all_none : (f : X → ℕ) (P Q : X → Type 0) (xs : List X) → sum_by f xs ≡ 0 → ((x : X) → f x ≡ 0 → P x → Q x) → AllByRecursion P xs → AllByRecursion Q xs
  all_none f P Q [] none g a = tt
  all_none f P Q (x ∷ xs) none g a =
      let c = sum_by-cons f x xs in
      (g x (omega (arith, none, c)) a.0, all_none f P Q xs (omega (arith, none, c)) g a.1)

  -- where one counts alone, and is written over
  pub all_other : (f : X → ℕ) (P Q : X → Type 0) (xs : List X) (i : ℕ) (y d : X) → i < length xs → sum_by f xs ≤ 1 → f (get_or xs i d) ≡ 1 → ((x : X) → f x ≡ 0 → P x → Q x) → AllByRecursion P xs → Q y → AllByRecursion Q (set xs i y)
  all_other f P Q [] i y d lt most one g a q = tt
  all_other f P Q (x ∷ xs) zero y d lt most one g a q =
      let c = sum_by-cons f x xs in
      (q, all_none f P Q xs (omega (arith, most, one, c)) g a.1)
  all_other f P Q (x ∷ xs) (suc i) y d lt most one g a q =
      let c = sum_by-cons f x xs in
      let within : i < length xs = omega (arith, lt) in
      let ge = sum_ge f xs i d within in
      (g x (omega (arith, most, one, c, ge)) a.0, all_other f P Q xs i y d within (omega (arith, most, c)) one g a.1 q)

  -- what is written over and then taken out leaves no trace
  pub all_without_set : (P : X → Type 0) (xs : List X) (i : ℕ) (y d : X) → i < length xs → AllByRecursion P xs → AllByRecursion P (swap_remove (set xs i y) i d)
  all_without_set P xs i y d lt a =
      let n = length (set xs i y) - 1 in
      let len = length-set xs i y in
      let last = get_or (set xs i y) n d in
      subst (λ (l : List X). AllByRecursion P (take n l)) (sym (set-set xs i y last))
      (elim (eq-or-lt_of_le {n = i} {m = length xs - 1} (omega (arith, lt))) [
        | inl same ↦ subst (AllByRecursion P) (sym (take-set-le n xs i last (omega (arith, same, len)))) (all_take P n xs a)
        | inr less ↦ all_take P n (set xs i last) (all_set P xs i last a (subst P (sym (get_or-set_other xs i n y d (λ e. omega (arith, e, len, less)))) (all_get P xs n d a (omega (arith, lt, len)))))
      ])

  pub length_without : (xs : List X) (i : ℕ) (d : X) → i < length xs → length (swap_remove xs i d) + 1 ≡ length xs
  length_without xs i d lt =
      let last = get_or xs (length xs - 1) d in
      let len = length-set xs i last in
      omega (arith, lt, len, length-take-le (length xs - 1) (set xs i last) (omega (arith, len)))
