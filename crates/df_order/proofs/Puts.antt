-- Functions of numbers, changed at one of them.
use Rattle.std.proofs.Common.{◌≡◌, ◌≢◌, ℕ, Bool, true, false, inl, inr, sym, subst, ◌∙◌, eqb}
use Rattle.std.proofs.lemmas.Bool.{eq-eqb, ne_eqb}
use Rattle.std.proofs.lemmas.Bool.Decides.{eqb_tells}
use Rattle.std.specs.Prelude.{if◌then◌else◌}
use Rattle.df_order.specs.Puts.{put}

-- what holds of x where j is k, and of f at j elsewhere, holds of the changed function at j
pub put_case : {X : Type 0} (P : X → Type 0) (k j : ℕ) (x : X) (f : ℕ → X) → (j ≡ k → P x) → (j ≢ k → P (f j)) →
    P (put k x f j)
put_case {X} P k j x f a b = elim (eqb_tells j k) [ inl t ↦ go true t.0 (a t.1) | inr t ↦ go false t.0 (b t.1) ]
  where
    go : (c : Bool) → eqb j k ≡ c → P (if c then x else f j) → P (if eqb j k then x else f j)
    go c e p = subst (λ d. P (if d then x else f j)) (sym e) p

pub put_same : {X : Type 0} (k j : ℕ) (x : X) (f : ℕ → X) → j ≡ k → put k x f j ≡ x
put_same k j x f e = rw (eq-eqb j k e)

pub put_other : {X : Type 0} (k j : ℕ) (x : X) (f : ℕ → X) → j ≢ k → put k x f j ≡ f j
put_other k j x f e = rw (ne_eqb j k e)

-- changes at two numbers may change places
pub put_swap : {X : Type 0} (n m : ℕ) (a b : X) (f : ℕ → X) (j : ℕ) → n ≢ m → put m b (put n a f) j ≡ put n a (put m b f) j
put_swap n m a b f j ne = elim (eqb_tells j m) [
  | inl e ↦ put_same m j b (put n a f) e.1 ∙ sym (put_other n j a (put m b f) (λ i. ne (sym i ∙ e.1)) ∙ put_same m j b f e.1)
  | inr e ↦ put_other m j b (put n a f) e.1 ∙ elim (eqb_tells j n) [
    | inl i ↦ put_same n j a f i.1 ∙ sym (put_same n j a (put m b f) i.1)
    | inr i ↦ put_other n j a f i.1 ∙ sym (put_other n j a (put m b f) i.1 ∙ put_other m j b f e.1)
  ]
]
