-- Sums over a list, when one of its parts changes or one more comes.
use Rattle.std.proofs.Common.{◌≡◌, ◌≢◌, ℕ, zero, suc, ◌+◌, ◌≤◌, List, [], ◌∷◌, ◌++◌, set, sym, refl, ap, subst, ⊎_elim, arith}
use mathlib.Core.Option.{some, some-injective, some-ne-none}
use lib.ListN.{get_elem?}
use Rattle.crossbeam_queue.proofs.Lists.{at_set, at_snoc}
use Rattle.df_shardqueue.specs.Shares.{total}

module _ {A : Type 0} where
  -- each that stands at an index is so
  abbrev pub AtEach : (A → Type 0) → List A → Type 0
  AtEach P xs = (i : ℕ) (x : A) → get_elem? xs i ≡ some x → P x

  pub each_set : (P : A → Type 0) (xs : List A) (i : ℕ) (y : A) → P y → ((j : ℕ) (x : A) → j ≢ i → get_elem? xs j ≡ some x → P x) → AtEach P (set xs i y)
  each_set P xs i y mine others j u at = ⊎_elim (λ (x : (j ≡ i) × (y ≡ u)). subst P x.1 mine) (λ (x : (j ≢ i) × (get_elem? xs j ≡ some u)). others j u x.0 x.1) (at_set xs i j y u at)

  pub each_snoc : (P : A → Type 0) (xs : List A) (y : A) → P y → AtEach P xs → AtEach P (xs ++ y ∷ [])
  each_snoc P xs y mine all j u at = ⊎_elim (λ x. all j u x) (λ (is : y ≡ u). subst P is mine) (at_snoc xs y u j at)

  module _ (f : A → ℕ) where
    pub total_set : (xs : List A) (i : ℕ) (x y : A) → get_elem? xs i ≡ some x → total f (set xs i y) + f x ≡ total f xs + f y
    total_set [] i x y at = absurd (some-ne-none x (sym at))
    total_set (z ∷ zs) zero x y at = let e = ap f (some-injective z x at) in omega (arith, e)
    total_set (z ∷ zs) (suc i) x y at = let e = total_set zs i x y at in omega (arith, e)

    pub total_snoc : (xs : List A) (y : A) → total f (xs ++ y ∷ []) ≡ total f xs + f y
    total_snoc [] y = omega arith
    total_snoc (z ∷ zs) y = let e = total_snoc zs y in omega (arith, e)

    pub total_same : (xs : List A) (i : ℕ) (x y : A) → get_elem? xs i ≡ some x → f y ≡ f x → total f (set xs i y) ≡ total f xs
    total_same xs i x y at same = let e = total_set xs i x y at in omega (arith, e, same)

    -- what two have goes to the first of them
    pub total_both : (xs : List A) (i j : ℕ) (x y both spent : A) → get_elem? xs i ≡ some x → get_elem? (set xs i both) j ≡ some y → f both ≡ f x + f y → f spent ≡ 0 → total f (set (set xs i both) j spent) ≡ total f xs
    total_both xs i j x y both spent at at' sum none = let e = total_set xs i x both at in let e' = total_set (set xs i both) j y spent at' in omega (arith, e, e', sum, none)

    -- what one has goes to a new one
    pub total_moved : (xs : List A) (i : ℕ) (x spent y : A) → get_elem? xs i ≡ some x → f spent ≡ 0 → f y ≡ f x → total f (set xs i spent ++ y ∷ []) ≡ total f xs
    total_moved xs i x spent y at none same = let e = total_set xs i x spent at in let e' = total_snoc (set xs i spent) y in omega (arith, e, e', none, same)

    pub total_at : (xs : List A) (i : ℕ) (x : A) → get_elem? xs i ≡ some x → f x ≤ total f xs
    total_at [] i x at = absurd (some-ne-none x (sym at))
    total_at (z ∷ zs) zero x at = let e = ap f (some-injective z x at) in omega (arith, e)
    total_at (z ∷ zs) (suc i) x at = let e = total_at zs i x at in omega (arith, e)

    pub total_none : (xs : List A) → AtEach (λ u. f u ≡ 0) xs → total f xs ≡ 0
    total_none [] none = refl
    total_none (z ∷ zs) none = let e = total_none zs (λ i u. none (suc i) u) in let e' = none 0 z refl in omega (arith, e, e')

    -- two of a list
    pub total_two : (xs : List A) (i j : ℕ) (x y : A) → i ≢ j → get_elem? xs i ≡ some x → get_elem? xs j ≡ some y → f x + f y ≤ total f xs
    total_two [] i j x y apart at at' = absurd (some-ne-none x (sym at))
    total_two (z ∷ zs) zero zero x y apart at at' = absurd (apart refl)
    total_two (z ∷ zs) zero (suc j) x y apart at at' = let e = ap f (some-injective z x at) in let e' = total_at zs j y at' in omega (arith, e, e')
    total_two (z ∷ zs) (suc i) zero x y apart at at' = let e = ap f (some-injective z y at') in let e' = total_at zs i x at in omega (arith, e, e')
    total_two (z ∷ zs) (suc i) (suc j) x y apart at at' = let e = total_two zs i j x y (λ same. apart (ap suc same)) at at' in omega (arith, e)

    -- where all others have nothing
    pub total_alone : (xs : List A) (i : ℕ) (x : A) → get_elem? xs i ≡ some x → ((j : ℕ) (u : A) → j ≢ i → get_elem? xs j ≡ some u → f u ≡ 0) → total f xs ≡ f x
    total_alone [] i x at others = absurd (some-ne-none x (sym at))
    total_alone (z ∷ zs) zero x at others = let e = ap f (some-injective z x at) in let e' = total_none zs (λ j u at'. others (suc j) u (λ no. omega (arith, no)) at') in omega (arith, e, e')
    total_alone (z ∷ zs) (suc i) x at others = let e = total_alone zs i x at (λ j u apart at'. others (suc j) u (λ no. apart (omega (arith, no))) at') in let e' = others 0 z (λ no. omega (arith, no)) refl in omega (arith, e, e')

  -- twice as much of each
  pub total_double : (f g : A → ℕ) (xs : List A) → AtEach (λ u. g u ≡ f u + f u) xs → total g xs ≡ total f xs + total f xs
  total_double f g [] twice = refl
  total_double f g (z ∷ zs) twice = let e = total_double f g zs (λ i u. twice (suc i) u) in let e' = twice 0 z refl in omega (arith, e, e')
