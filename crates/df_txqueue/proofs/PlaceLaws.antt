-- Laws of places in the order of their numbers.
use Rattle.std.proofs.Common.{◌≡◌, ℕ, zero, suc, ◌<◌, ◌≤◌, Bool, true, false, cond, ltb, ltb-true, ltb-false, ◌==◌, List, [], ◌∷◌, length, get_or, refl, sym, ap, subst, ◌∙◌, arith}
use Rattle.std.proofs.lemmas.Bool.{cond_both, eqb-false, eqb-true, false≢true}
use Rattle.std.proofs.lemmas.List.{get_or_default}
use Rattle.std.specs.Prelude.{Option, Some, None, is_some, nat_lt, slice_get, MatchOption}
use Rattle.std.specs.List.{AllWithin, insert, remove}
use Rattle.std.specs.List.Sorted.{IsNonDecreasingBy, IsPartitionPoint}
use Rattle.df_txqueue.specs.declared.place.Place.{Place}
use Rattle.df_txqueue.specs.Places.{AllAbove, Ascending, IsGreatest, IsLeast, is_queued, last_number, place_of, with_place, without}
use Rattle.df_txqueue.specs.Searches.{Found, Missing}

-- ---- order

above_at : (n : ℕ) (ps : List Place) (i : ℕ) (d : Place) → AllAbove n ps → i < length ps → n < (get_or ps i d).number
above_at n [] i d h lt = absurd (omega arith)
above_at n (p ∷ ps) zero d h lt = h.0
above_at n (p ∷ ps) (suc i) d h lt = above_at n ps i d h.1 (omega arith)

above_less : (m n : ℕ) (ps : List Place) → m ≤ n → AllAbove n ps → AllAbove m ps
above_less m n [] le h = tt
above_less m n (p ∷ ps) le h = (omega (arith, h.0), above_less m n ps le h.1)

pub rises : (ps : List Place) → Ascending ps → IsNonDecreasingBy (λ p. p.number) ps
rises [] s i j d le lt = absurd (omega arith)
rises (p ∷ ps) s zero zero d le lt = omega arith
rises (p ∷ ps) s zero (suc j) d le lt = omega (arith, above_at p.number ps j d s.0 (omega arith))
rises (p ∷ ps) s (suc i) zero d le lt = absurd (omega arith)
rises (p ∷ ps) s (suc i) (suc j) d le lt = rises ps s.1 i j d (omega arith) (omega arith)

-- ---- the index that a number splits places at

-- no number here is less
abbrev NoneBelow : ℕ → List Place → Type 0
NoneBelow n [] = Unit {0}
NoneBelow n (p ∷ ps) = (n ≤ p.number) × NoneBelow n ps

-- the numbers before i are less than n, and those from i on aren't
abbrev Splits : ℕ → List Place → ℕ → Type 0
Splits n ps zero = NoneBelow n ps
Splits n [] (suc i) = ⊥
Splits n (p ∷ ps) (suc i) = (p.number < n) × Splits n ps i

none_below : (n : ℕ) (ps : List Place) → AllWithin (λ p. n ≤ p.number) ps 0 (length ps) → NoneBelow n ps
none_below n [] h = tt
none_below n (p ∷ ps) h = (h 0 p (omega arith) (omega arith), none_below n ps (λ k d a b. h (suc k) d (omega arith) (omega arith)))

splits : (n : ℕ) (ps : List Place) (i : ℕ) → i ≤ length ps → IsPartitionPoint (λ p. p.number < n) (λ p. n ≤ p.number) ps i → Splits n ps i
splits n ps zero le h = none_below n ps h.1
splits n [] (suc i) le h = absurd (omega arith)
splits n (p ∷ ps) (suc i) le h =
    (h.0 0 p (omega arith) (omega arith), splits n ps i (omega arith) (λ k d a b. h.0 (suc k) d (omega arith) (omega arith), λ k d a b. h.1 (suc k) d (omega arith) (omega arith)))

-- ---- a number that has no place

absent_above : (n : ℕ) (ps : List Place) → AllAbove n ps → place_of n ps ≡ None
absent_above n [] h = refl
absent_above n (p ∷ ps) h = grind (arith, h.0, absent_above n ps h.1)

same_above : (n : ℕ) (ps : List Place) → AllAbove n ps → without n ps ≡ ps
same_above n [] h = refl
same_above n (p ∷ ps) h = grind (arith, h.0, same_above n ps h.1)

-- the number isn't that of the place that the index falls on
missing_place : (n : ℕ) (ps : List Place) (i : ℕ) (d : Place) → Ascending ps → Splits n ps i → (i < length ps → n < (get_or ps i d).number) → place_of n ps ≡ None
missing_place n [] i d s h apart = refl
missing_place n (p ∷ ps) zero d s h apart =
    let lt : n < p.number = apart (omega arith) in
    absent_above n (p ∷ ps) (lt, above_less n p.number ps (omega (arith, lt)) s.0)
missing_place n (p ∷ ps) (suc i) d s h apart = grind (arith, h.0, missing_place n ps i d s.1 h.1 (λ lt. apart (omega (arith, lt))))

missing_same : (n : ℕ) (ps : List Place) → place_of n ps ≡ None → without n ps ≡ ps
missing_same n [] e = refl
missing_same n (p ∷ ps) e = by_test (p.number == n) e (missing_same n ps)
  where
    by_test : (b : Bool) → cond b (Some p) (place_of n ps) ≡ None → (place_of n ps ≡ None → without n ps ≡ ps) → cond b (without n ps) (p ∷ without n ps) ≡ p ∷ ps
    by_test true e step = grind (arith, e)
    by_test false e step = ap (λ xs. p ∷ xs) (step e)

pub missing : (n : ℕ) (ps : List Place) (i : ℕ) (d : Place) → Ascending ps → i ≤ length ps → IsPartitionPoint (λ p. p.number < n) (λ p. n ≤ p.number) ps i → (i < length ps → n < (get_or ps i d).number) → Missing n ps
missing n ps i d s le h apart =
    let absent = missing_place n ps i d s (splits n ps i le h) apart in
    record { place = absent; same = missing_same n ps absent }

-- ---- a number that has a place

found_place : (n : ℕ) (ps : List Place) (i : ℕ) (d : Place) → Splits n ps i → i < length ps → (get_or ps i d).number ≡ n → place_of n ps ≡ Some (get_or ps i d)
found_place n [] i d h lt e = absurd (omega arith)
found_place n (p ∷ ps) zero d h lt e = grind (arith, e)
found_place n (p ∷ ps) (suc i) d h lt e = grind (arith, h.0, found_place n ps i d h.1 (omega arith) e)

removed : (n : ℕ) (ps : List Place) (i : ℕ) (d : Place) → Ascending ps → Splits n ps i → i < length ps → (get_or ps i d).number ≡ n → remove ps i ≡ without n ps
removed n [] i d s h lt e = absurd (omega arith)
removed n (p ∷ ps) zero d s h lt e = first (p.number == n) refl (same_above n ps (subst (λ m. AllAbove m ps) e s.0))
  where
    first : (b : Bool) → (p.number == n) ≡ b → without n ps ≡ ps → ps ≡ cond b (without n ps) (p ∷ without n ps)
    first true t same = sym same
    first false t same = absurd (eqb-false p.number n t e)
removed n (p ∷ ps) (suc i) d s h lt e = without_less (p.number == n) refl (ap (λ xs. p ∷ xs) (removed n ps i d s.1 h.1 (omega arith) e))
  where
    without_less : (b : Bool) → (p.number == n) ≡ b → p ∷ remove ps i ≡ p ∷ without n ps → p ∷ remove ps i ≡ cond b (without n ps) (p ∷ without n ps)
    without_less true t step = absurd (omega (arith, h.0, eqb-true p.number n t))
    without_less false t step = step

above_without : (m n : ℕ) (ps : List Place) → AllAbove m ps → AllAbove m (without n ps)
above_without m n [] h = tt
above_without m n (p ∷ ps) h = cond_both (p.number == n) (without n ps) (p ∷ without n ps) (AllAbove m) (λ e. above_without m n ps h.1) (λ e. (h.0, above_without m n ps h.1))

pub ascending_without : (n : ℕ) (ps : List Place) → Ascending ps → Ascending (without n ps)
ascending_without n [] s = tt
ascending_without n (p ∷ ps) s =
    cond_both (p.number == n) (without n ps) (p ∷ without n ps) Ascending (λ e. ascending_without n ps s.1) (λ e. (above_without p.number n ps s.0, ascending_without n ps s.1))

pub found : (n : ℕ) (ps : List Place) (i : ℕ) (d : Place) → Ascending ps → i < length ps → IsPartitionPoint (λ p. p.number < n) (λ p. n ≤ p.number) ps i → d ≡ get_or ps i d → d.number ≡ n → Found n ps i
found n ps i d s lt h is e =
    let at = splits n ps i (omega (arith, lt)) h in
    let number : (get_or ps i d).number ≡ n = ap (λ p. p.number) (sym is) ∙ e in
    let same = removed n ps i d s at lt number in
    record {
      within = lt;
      place = λ p q. found_place n ps i p at lt (ap (λ x. x.number) (get_or_default ps i p d lt) ∙ number) ∙ ap Some (sym q);
      queued = ap is_some (found_place n ps i d at lt number);
      removed = same;
      sorted = subst Ascending (sym same) (ascending_without n ps s);
    }

-- ---- a new place

pub inserted : (place : Place) (ps : List Place) (i : ℕ) → Splits place.number ps i → place_of place.number ps ≡ None → insert ps i place ≡ with_place place ps
inserted place [] zero h e = refl
inserted place [] (suc i) h e = absurd h
inserted place (p ∷ ps) zero h e = grind (arith, h.0, e)
inserted place (p ∷ ps) (suc i) h e = further (p.number == place.number) refl (nat_lt place.number p.number) refl e (inserted place ps i h.1)
  where
    further : (b : Bool) → (p.number == place.number) ≡ b → (c : Bool) → nat_lt place.number p.number ≡ c → cond b (Some p) (place_of place.number ps) ≡ None → (place_of place.number ps ≡ None → insert ps i place ≡ with_place place ps)
        → p ∷ insert ps i place ≡ cond c (place ∷ p ∷ ps) (p ∷ with_place place ps)
    further true t c u e step = absurd (omega (arith, h.0, eqb-true p.number place.number t))
    further false t true u e step = absurd (omega (arith, h.0, ltb-true place.number p.number u))
    further false t false u e step = ap (λ xs. p ∷ xs) (step e)

above_with : (m : ℕ) (place : Place) (ps : List Place) → m < place.number → AllAbove m ps → AllAbove m (with_place place ps)
above_with m place [] lt h = (lt, tt)
above_with m place (p ∷ ps) lt h =
    cond_both (nat_lt place.number p.number) (place ∷ p ∷ ps) (p ∷ with_place place ps) (AllAbove m) (λ e. (lt, h)) (λ e. (h.0, above_with m place ps lt h.1))

pub ascending_with : (place : Place) (ps : List Place) → place_of place.number ps ≡ None → Ascending ps → Ascending (with_place place ps)
ascending_with place [] e s = (tt, tt)
ascending_with place (p ∷ ps) e s = by_test (p.number == place.number) refl e (λ e. ascending_with place ps e s.1)
  where
    by_test : (b : Bool) → (p.number == place.number) ≡ b → cond b (Some p) (place_of place.number ps) ≡ None → (place_of place.number ps ≡ None → Ascending (with_place place ps))
        → Ascending (with_place place (p ∷ ps))
    by_test true t e step = grind (arith, e)
    by_test false t e step =
        cond_both (nat_lt place.number p.number) (place ∷ p ∷ ps) (p ∷ with_place place ps) Ascending
        (λ u. let lt = ltb-true place.number p.number u in ((lt, above_less place.number p.number ps (omega (arith, lt)) s.0), s))
        (λ u. (above_with p.number place ps (omega (arith, eqb-false p.number place.number t, ltb-false place.number p.number u)) s.0, step e))

pub inserted_at : (place : Place) (ps : List Place) (i : ℕ) → i ≤ length ps → IsPartitionPoint (λ p. p.number < place.number) (λ p. place.number ≤ p.number) ps i → place_of place.number ps ≡ None → insert ps i place ≡ with_place place ps
inserted_at place ps i le h e = inserted place ps i (splits place.number ps i le h) e

-- ---- the first and the last place

queued_at : (ps : List Place) (i : ℕ) (d : Place) → i < length ps → is_some (place_of (get_or ps i d).number ps) ≡ true
queued_at [] i d lt = absurd (omega arith)
queued_at (p ∷ ps) zero d lt = grind arith
queued_at (p ∷ ps) (suc i) d lt = by_test (p.number == (get_or ps i d).number) (queued_at ps i d (omega arith))
  where
    by_test : (b : Bool) → is_some (place_of (get_or ps i d).number ps) ≡ true → is_some (cond b (Some p) (place_of (get_or ps i d).number ps)) ≡ true
    by_test true rest = refl
    by_test false rest = rest

pub least_at : (ps : List Place) (r : Option Place) → Ascending ps → r ≡ slice_get ps 0 → MatchOption r (ps ≡ []) (λ p. IsLeast p.number ps)
least_at [] r s e = rw e refl
least_at (p ∷ ps) r s e =
    rw e (record { queued = queued_at (p ∷ ps) 0 p (omega arith); least = λ k d lt. rises (p ∷ ps) s 0 k d (omega arith) lt })

pub last_at : (ps : List Place) (i : ℕ) (d : Place) → suc i ≡ length ps → last_number ps ≡ Some (get_or ps i d).number
last_at [] i d e = absurd (omega arith)
last_at (p ∷ []) zero d e = refl
last_at (p ∷ []) (suc i) d e = absurd (omega arith)
last_at (p ∷ q ∷ ps) zero d e = absurd (omega arith)
last_at (p ∷ q ∷ ps) (suc i) d e = last_at (q ∷ ps) i d (omega arith)

pub greatest_at : (ps : List Place) (i : ℕ) (d : Place) → Ascending ps → suc i ≡ length ps → IsGreatest (get_or ps i d).number ps
greatest_at ps i d s e = record {
  queued = queued_at ps i d (omega arith);
  greatest = λ k x lt. subst (λ p. (get_or ps k x).number ≤ p.number) (get_or_default ps i x d (omega arith)) (rises ps s k i x (omega arith) (omega arith));
}

-- ---- a binary search

pub split_by_tests : (n : ℕ) (ps : List Place) (i : ℕ) → IsPartitionPoint (λ p. ltb p.number n ≡ true) (λ p. ltb p.number n ≡ false) ps i → IsPartitionPoint (λ p. p.number < n) (λ p. n ≤ p.number) ps i
split_by_tests n ps i h = (λ k d a b. ltb-true _ _ (h.0 k d a b), λ k d a b. ltb-false _ _ (h.1 k d a b))

pub told : (n : ℕ) (ps : List Place) (r : Option ℕ) → MatchOption r (Missing n ps) (Found n ps) → is_some r ≡ is_queued n ps
told n ps None h = ap is_some (sym h.place)
told n ps (Some i) h = sym h.queued

pub not_queued : (n : ℕ) (ps : List Place) → is_queued n ps ≡ false → place_of n ps ≡ None
not_queued n ps e = none (place_of n ps) e
  where
    none : (r : Option Place) → is_some r ≡ false → r ≡ None
    none None e = refl
    none (Some p) e = absurd (false≢true (sym e))
