-- Lists of one length, compared two by two from a place on.
use Rattle.std.proofs.Common.{◌≡◌, ℕ, zero, suc, ◌+◌, ◌<◌, ◌≤◌, Bool, true, false, List, [], ◌∷◌, map, length, drop, refl, sym, ap, ◌∙◌, arith}
use Rattle.std.specs.Prelude.{◌&&◌, slice_get}
use Rattle.std.proofs.lemmas.List.{drop_all, length-map}
use Rattle.std.specs.Cmp.Lexicographic.{pointwise}
use Rattle.std.specs.FinMap.{len-entries}
use Rattle.std.specs.FinMap as fin
use Rattle.df_model.specs.Values.{Bytes, Members}
use Rattle.df_model.specs.Members.{len, items}
use Rattle.df_model.specs.Words.{same}
use Rattle.df_spread.specs.Pairs.{both}

module _ {X : Type 0} (E : X → X → Bool) where
  -- from a place on they agree where they agree there and behind it
  from_place : (xs ys : List X) (n : ℕ) → n < length xs → length xs ≡ length ys →
      pointwise E (drop n xs) (drop n ys) ≡ (both E (slice_get xs n) (slice_get ys n) && pointwise E (drop (suc n) xs) (drop (suc n) ys))
  from_place [] ys n lt e = absurd (omega arith)
  from_place (x ∷ xs) [] n lt e = absurd (omega arith)
  from_place (x ∷ xs) (y ∷ ys) zero lt e = refl
  from_place (x ∷ xs) (y ∷ ys) (suc n) lt e = from_place xs ys n (omega arith) (omega arith)

  -- the test at a place that holds leaves those behind it
  pub place_holds : (xs ys : List X) (n : ℕ) (all : Bool) → n < length xs → length xs ≡ length ys →
      pointwise E (drop n xs) (drop n ys) ≡ all → both E (slice_get xs n) (slice_get ys n) ≡ true →
      pointwise E (drop (n + 1) xs) (drop (n + 1) ys) ≡ all
  place_holds xs ys n all lt e so_far here =
      let next : n + 1 ≡ suc n = omega arith in
      ap (λ k. pointwise E (drop k xs) (drop k ys)) next
      ∙ sym (ap (λ b. b && pointwise E (drop (suc n) xs) (drop (suc n) ys)) here)
      ∙ sym (from_place xs ys n lt e)
      ∙ so_far

  -- and one that fails decides
  pub place_fails : (xs ys : List X) (n : ℕ) (all : Bool) → n < length xs → length xs ≡ length ys →
      pointwise E (drop n xs) (drop n ys) ≡ all → both E (slice_get xs n) (slice_get ys n) ≡ false → false ≡ all
  place_fails xs ys n all lt e so_far here =
      sym (ap (λ b. b && pointwise E (drop (suc n) xs) (drop (suc n) ys)) here) ∙ sym (from_place xs ys n lt e) ∙ so_far

  -- behind the last place they agree
  pub places_end : (xs ys : List X) (n : ℕ) (all : Bool) → length xs ≤ n → length xs ≡ length ys →
      pointwise E (drop n xs) (drop n ys) ≡ all → true ≡ all
  places_end xs ys n all le e so_far =
      let one : drop n xs ≡ [] = drop_all n xs le in
      let other : drop n ys ≡ [] = drop_all n ys (omega arith) in
      sym (λ i. pointwise E (one i) (other i)) ∙ so_far

-- members that are compared as entries are compared as words
pub firsts_compared : (xs ys : List (Bytes × Unit {0})) → pointwise (λ e f. same e.0 f.0) xs ys ≡ pointwise same (map (λ e. e.0) xs) (map (λ e. e.0) ys)
firsts_compared [] [] = refl
firsts_compared [] (y ∷ ys) = refl
firsts_compared (x ∷ xs) [] = refl
firsts_compared (x ∷ xs) (y ∷ ys) = ap (λ b. same x.0 y.0 && b) (firsts_compared xs ys)

-- how many members there are
pub count_items : (members : Members) → len members ≡ length (items members)
count_items members = len-entries members ∙ sym (length-map (fin.entries members) (λ e. e.0))
