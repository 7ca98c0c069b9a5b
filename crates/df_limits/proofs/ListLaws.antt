-- Facts of all elements of a list, after what rows of lists do to it.
use Rattle.std.proofs.Common.{ℕ, zero, suc, Bool, true, false, cond, List, [], ◌∷◌, ◌++◌, reverse, take, drop, set}
use mathlib.Core.List.{reverse_aux}
use Rattle.std.specs.List.{AllByRecursion, filter}

module _ {X : Type 0} (P : X → Type 0) where
  pub all_append : (xs ys : List X) → AllByRecursion P xs → AllByRecursion P ys → AllByRecursion P (xs ++ ys)
  all_append [] ys a b = b
  all_append (x ∷ xs) ys a b = (a.0, all_append xs ys a.1 b)

  all_onto : (xs ys : List X) → AllByRecursion P xs → AllByRecursion P ys → AllByRecursion P (reverse_aux xs ys)
  all_onto [] ys a b = b
  all_onto (x ∷ xs) ys a b = all_onto xs (x ∷ ys) a.1 (a.0, b)

  pub all_reverse : (xs : List X) → AllByRecursion P xs → AllByRecursion P (reverse xs)
  all_reverse xs a = all_onto xs [] a tt

  pub all_take : (n : ℕ) (xs : List X) → AllByRecursion P xs → AllByRecursion P (take n xs)
  all_take zero xs a = tt
  all_take (suc n) [] a = tt
  all_take (suc n) (x ∷ xs) a = (a.0, all_take n xs a.1)

  pub all_drop : (n : ℕ) (xs : List X) → AllByRecursion P xs → AllByRecursion P (drop n xs)
  all_drop zero xs a = a
  all_drop (suc n) [] a = tt
  all_drop (suc n) (x ∷ xs) a = all_drop n xs a.1

  pub all_set : (xs : List X) (i : ℕ) (y : X) → AllByRecursion P xs → P y → AllByRecursion P (set xs i y)
  all_set [] i y a p = tt
  all_set (x ∷ xs) zero y a p = (p, a.1)
  all_set (x ∷ xs) (suc i) y a p = (a.0, all_set xs i y a.1 p)

  pub all_of_two : (b : Bool) (xs ys : List X) → AllByRecursion P xs → AllByRecursion P ys → AllByRecursion P (cond b xs ys)
  all_of_two true xs ys a b = a
  all_of_two false xs ys a b = b

  pub all_filter : (test : X → Bool) (xs : List X) → AllByRecursion P xs → AllByRecursion P (filter test xs)
  all_filter test [] a = tt
  all_filter test (x ∷ xs) a = all_of_two (test x) (x ∷ filter test xs) (filter test xs) (a.0, all_filter test xs a.1) (all_filter test xs a.1)
