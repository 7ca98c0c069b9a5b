-- A binary search among entries in order finds the key, or the place where it would go.
use Rattle.std.proofs.Common.{◌≡◌, ℕ, zero, suc, ◌<◌, ◌≤◌, List, [], ◌∷◌, length, get_or, Result, Ok, Err, refl, subst, arith}
use Rattle.std.specs.Prelude.{T, MatchResult}
use Rattle.std.specs.List.{AllWithin, HoldsAt}
use Rattle.std.specs.List.Sorted.{IsNonDecreasingBy, IsPartitionPoint, IsSearchInRange, IsBinarySearchResult}
use Rattle.std.specs.Ordering.{ordering_index}
use Rattle.std.specs.declared.cmp.Ordering.TheVariants.{Less, Equal, Greater}
use Rattle.std.specs.FinMap.{is_sorted}
use Rattle.df_model.specs.Values.{Bytes}
use Rattle.df_colls.specs.Roomy.{order}
use Rattle.df_colls.specs.Places.{AllAbove, IsAt, GoesTo}
use Rattle.df_colls.proofs.OrderLaws.{second, same_key, flip, lower, above_first, above_at}

module _ {X : Type 0} where
  rises : (k : Bytes) (es : List (Bytes × X)) → T (is_sorted order es) → IsNonDecreasingBy (λ y. ordering_index (order y.0 k)) es
  rises k [] s i j d le lt = absurd (omega arith)
  rises k (e ∷ es) s zero zero d le lt = omega arith
  rises k (e ∷ es) s zero (suc j) d le lt = lower e.0 (get_or es j d).0 k _ (above_at e.0 es j d (above_first e es s) (omega arith)) refl
  rises k (e ∷ es) s (suc i) zero d le lt = absurd (omega arith)
  rises k (e ∷ es) s (suc i) (suc j) d le lt = rises k es (second _ _ s) i j d (omega arith) (omega arith)

  all_above : (k : Bytes) (es : List (Bytes × X)) → AllWithin (λ y. order y.0 k ≡ Greater) es 0 (length es) → AllAbove k es
  all_above k [] h = tt
  all_above k (e ∷ es) h = (flip e.0 k Greater (h 0 e (omega arith) (omega arith)), all_above k es (λ j d a b. h (suc j) d (omega arith) (omega arith)))

  goes_to : (k : Bytes) (es : List (Bytes × X)) (i : ℕ) → i ≤ length es → IsPartitionPoint (λ y. order y.0 k ≡ Less) (λ y. order y.0 k ≡ Greater) es i → GoesTo k es i
  goes_to k es zero le h = all_above k es h.1
  goes_to k [] (suc i) le h = absurd (omega arith)
  goes_to k (e ∷ es) (suc i) le h =
      (flip e.0 k Less (h.0 0 e (omega arith) (omega arith)), goes_to k es i (omega arith) (λ j d a b. h.0 (suc j) d (omega arith) (omega arith), λ j d a b. h.1 (suc j) d (omega arith) (omega arith)))

  is_at : (k : Bytes) (es : List (Bytes × X)) (i : ℕ) → T (is_sorted order es) → i < length es → HoldsAt (λ y. order y.0 k ≡ Equal) es i → IsAt k es i
  is_at k [] i s lt h = absurd (omega arith)
  is_at k (e ∷ es) zero s lt h = flip e.0 k Equal (h e)
  is_at k (e ∷ es) (suc i) s lt h =
      (flip e.0 k Less (subst (λ x. order e.0 x ≡ Less) (same_key _ k (h e)) (above_at e.0 es i e (above_first e es s) (omega arith))), is_at k es i (second _ _ s) (omega arith) (λ d. h d))

  pub searched : (k : Bytes) (es : List (Bytes × X)) (r : Result ℕ ℕ) → T (is_sorted order es) → (xs : List (Bytes × X)) → xs ≡ es → IsSearchInRange r (length xs) → IsBinarySearchResult (λ y. order y.0 k) xs r → MatchResult r (IsAt k es) (GoesTo k es)
  searched k es r s xs e range h = told r (subst (λ ys. IsSearchInRange r (length ys)) e range) (subst (λ ys. IsBinarySearchResult (λ y. order y.0 k) ys r) e h)
    where
      told : (r : Result ℕ ℕ) → IsSearchInRange r (length es) → IsBinarySearchResult (λ y. order y.0 k) es r → MatchResult r (IsAt k es) (GoesTo k es)
      told (Ok i) range h = is_at k es i s range h
      told (Err i) range h = goes_to k es i range (h (rises k es s))
