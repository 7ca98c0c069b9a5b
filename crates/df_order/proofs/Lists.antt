-- Lemmas on `Has`, `Chain` and `only`.
use Rattle.std.proofs.Common.{◌≡◌, ◌⊎◌, Bool, true, false, List, [], ◌∷◌, ◌++◌, inl, inr, refl, sym, ap, ◌∙◌, subst}
use Rattle.std.proofs.lemmas.Bool.{false≢true}
use Rattle.df_order.specs.Lists.{Has, Chain, cons_if, only}

pub has_left : {X : Type 0} (xs ys : List X) (x : X) → Has xs x → Has (xs ++ ys) x
has_left [] ys x h = absurd h
has_left (y ∷ xs) ys x (inl e) = inl e
has_left (y ∷ xs) ys x (inr h) = inr (has_left xs ys x h)

pub has_right : {X : Type 0} (xs ys : List X) (x : X) → Has ys x → Has (xs ++ ys) x
has_right [] ys x h = h
has_right (y ∷ xs) ys x h = inr (has_right xs ys x h)

pub has_cases : {X : Type 0} (xs ys : List X) (x : X) → Has (xs ++ ys) x → Has xs x ⊎ Has ys x
has_cases [] ys x h = inr h
has_cases (y ∷ xs) ys x (inl e) = inl (inl e)
has_cases (y ∷ xs) ys x (inr h) = elim (has_cases xs ys x h) [ inl a ↦ inl (inr a) | inr b ↦ inr b ]

pub has_last : {X : Type 0} (xs : List X) (y x : X) → Has (xs ++ y ∷ []) x → Has xs x ⊎ (y ≡ x)
has_last xs y x h = elim (has_cases xs (y ∷ []) x h) [ inl a ↦ inl a | inr b ↦ elim b [ inl e ↦ inr e | inr n ↦ absurd n ] ]

pub chain_push : {X : Type 0} (R : X → X → Type 0) (xs : List X) (y : X) → Chain R xs → ((x : X) → Has xs x → R x y) →
    Chain R (xs ++ y ∷ [])
chain_push R [] y c h = (λ z n. absurd n, tt)
chain_push R (x ∷ xs) y c h =
    (λ z n. elim (has_last xs y z n) [ inl a ↦ c.0 z a | inr e ↦ subst (R x) e (h x (inl refl)) ], chain_push R xs y c.1 (λ z n. h z (inr n)))

-- a member of what passes is a member and passes
pub has_only : {X : Type 0} (p : X → Bool) (xs : List X) (x : X) → Has (only p xs) x → Has xs x × (p x ≡ true)
has_only p [] x h = absurd h
has_only {X} p (y ∷ xs) x h = go (p y) refl (has_only p xs x) h
  where
    go : (b : Bool) → p y ≡ b → (Has (only p xs) x → Has xs x × (p x ≡ true)) →
        Has (cons_if b y (only p xs)) x → Has (y ∷ xs) x × (p x ≡ true)
    go true e f (inl i) = (inl i, ap p (sym i) ∙ e)
    go true e f (inr k) = let r = f k in (inr r.0, r.1)
    go false e f k = let r = f k in (inr r.0, r.1)

pub only_has : {X : Type 0} (p : X → Bool) (xs : List X) (x : X) → Has xs x → p x ≡ true → Has (only p xs) x
only_has p [] x h e = absurd h
only_has {X} p (y ∷ xs) x h e = go (p y) refl (λ k. only_has p xs x k e) h
  where
    go : (b : Bool) → p y ≡ b → (Has xs x → Has (only p xs) x) → Has (y ∷ xs) x →
        Has (cons_if b y (only p xs)) x
    go true q f (inl i) = inl i
    go true q f (inr k) = inr (f k)
    go false q f (inl i) = absurd (false≢true (sym q ∙ ap p i ∙ e))
    go false q f (inr k) = f k

pub chain_only : {X : Type 0} (R : X → X → Type 0) (p : X → Bool) (xs : List X) → Chain R xs → Chain R (only p xs)
chain_only R p [] c = tt
chain_only {X} R p (y ∷ xs) c = go (p y) (chain_only R p xs c.1)
  where
    go : (b : Bool) → Chain R (only p xs) → Chain R (cons_if b y (only p xs))
    go true d = (λ z n. c.0 z (has_only p xs z n).0, d)
    go false d = d

pub only_append : {X : Type 0} (p : X → Bool) (xs ys : List X) → only p (xs ++ ys) ≡ only p xs ++ only p ys
only_append p [] ys = refl
only_append {X} p (x ∷ xs) ys = go (p x) (only_append p xs ys)
  where
    go : (b : Bool) → only p (xs ++ ys) ≡ only p xs ++ only p ys →
        (cons_if b x (only p (xs ++ ys))) ≡ (cons_if b x (only p xs)) ++ only p ys
    go true e = ap (λ l. x ∷ l) e
    go false e = e

pub nil_none : {X : Type 0} (xs : List X) → ((x : X) → Has xs x → ⊥) → xs ≡ []
nil_none [] h = refl
nil_none (x ∷ xs) h = absurd (h x (inl refl))

pub chain_map : {X : Type 0} (R S : X → X → Type 0) (xs : List X) → ((x y : X) → Has xs x → Has xs y → R x y → S x y) →
    Chain R xs → Chain S xs
chain_map R S [] f c = tt
chain_map R S (x ∷ xs) f c =
    (λ y h. f x y (inl refl) (inr h) (c.0 y h), chain_map R S xs (λ a b ha hb r. f a b (inr ha) (inr hb) r) c.1)

-- the members of one kind are all there where the kind passes
pub only_only : {X : Type 0} (p q : X → Bool) (xs : List X) → ((x : X) → p x ≡ true → q x ≡ true) →
    only p (only q xs) ≡ only p xs
only_only p q [] f = refl
only_only {X} p q (x ∷ xs) f = go (p x) (q x) refl refl (only_only p q xs f)
  where
    go : (a b : Bool) → p x ≡ a → q x ≡ b → only p (only q xs) ≡ only p xs →
        only p (cons_if b x (only q xs)) ≡ (cons_if a x (only p xs))
    go true true i j e = ap (λ c. cons_if c x (only p (only q xs))) i ∙ ap (λ l. x ∷ l) e
    go true false i j e = absurd (false≢true (sym j ∙ f x i))
    go false true i j e = ap (λ c. cons_if c x (only p (only q xs))) i ∙ e
    go false false i j e = e
