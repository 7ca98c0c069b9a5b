-- Sums over lists that change at one place, and facts on the elements of lists.
use Rattle.std.proofs.Common.{lt_of_not-le, Bool, true, false, cond, eqb, eq-eqb, ne_eqb, ◌≡◌, ℕ, zero, suc, ◌+◌, ◌<◌, ◌≤◌, ◌≢◌, ◌⊎◌, List, [], ◌∷◌, ◌++◌, map, length, set, sym, refl, ap, subst, inl, inr, ⊎_elim, arith, Some}
use Rattle.std.specs.Prelude.{slice_get}
use mathlib.Core.Option.{some, some-injective, some-ne-none}
use lib.ListN.{get_elem?}
use mathlib.Core.Logic.{dite}
use native.Mathlib.Decide.{ℕ_discrete, dec_le}
use Rattle.df_book.specs.Weights.{total, below, Each, from_on, hit}
use Rattle.df_book.specs.Rule.{second, pair_of}

module _ {A : Type 0} where
  pub Each-map : (P Q : A → Type 0) → ((a : A) → P a → Q a) → (l : List A) → Each P l → Each Q l
  Each-map P Q h [] e = tt
  Each-map P Q h (x ∷ xs) e = (h x e.0, Each-map P Q h xs e.1)

  pub Each-append : (P : A → Type 0) (l m : List A) → Each P l → Each P m → Each P (l ++ m)
  Each-append P [] m e d = d
  Each-append P (x ∷ xs) m e d = (e.0, Each-append P xs m e.1 d)

  pub Each-at : (P : A → Type 0) (l : List A) (k : ℕ) (a : A) → Each P l → slice_get l k ≡ Some a → P a
  Each-at P [] k a e h = absurd (cc)
  Each-at P (x ∷ xs) zero a e h = subst P (cc) e.0
  Each-at P (x ∷ xs) (suc k) a e h = Each-at P xs k a e.1 h

  pub get-front : (l m : List A) (k : ℕ) (a : A) → slice_get l k ≡ Some a → slice_get (l ++ m) k ≡ Some a
  get-front [] m k a e = absurd (cc)
  get-front (x ∷ xs) m zero a e = e
  get-front (x ∷ xs) m (suc k) a e = get-front xs m k a e

  pub get-snoc : (l : List A) (b : A) (k : ℕ) (a : A) → slice_get (l ++ b ∷ []) k ≡ Some a → (slice_get l k ≡ Some a) ⊎ ((k ≡ length l) × (b ≡ a))
  get-snoc [] b zero a e = inr (refl, cc)
  get-snoc [] b (suc k) a e = absurd (cc)
  get-snoc (x ∷ xs) b zero a e = inl e
  get-snoc (x ∷ xs) b (suc k) a e = ⊎_elim inl (λ t. inr (ap suc t.0, t.1)) (get-snoc xs b k a e)

  pub get-last : (l : List A) (b : A) → slice_get (l ++ b ∷ []) (length l) ≡ Some b
  get-last [] b = refl
  get-last (x ∷ xs) b = get-last xs b

  pub get-below : (l : List A) (k : ℕ) (a : A) → slice_get l k ≡ Some a → k < length l
  get-below [] k a e = absurd (cc)
  get-below (x ∷ xs) zero a e = omega arith
  get-below (x ∷ xs) (suc k) a e = omega (arith, get-below xs k a e)

  module _ (g : A → ℕ) where
    pub total-append : (l m : List A) → total g (l ++ m) ≡ total g l + total g m
    total-append [] m = omega arith
    total-append (x ∷ xs) m = omega (arith, total-append xs m)

    pub total-set : (l : List A) (j : ℕ) (v w : A) → get_elem? l j ≡ some v → total g (set l j w) + g v ≡ total g l + g w
    total-set [] j v w e = absurd (some-ne-none v (sym e))
    total-set (x ∷ xs) zero v w e = omega (arith, ap g (some-injective x v e))
    total-set (x ∷ xs) (suc j) v w e = omega (arith, total-set xs j v w e)

    pub total-same : (l : List A) (j : ℕ) (v w : A) → get_elem? l j ≡ some v → g w ≡ g v → total g (set l j w) ≡ total g l
    total-same l j v w e h = omega (arith, total-set l j v w e)

    pub term_le : (l : List A) (j : ℕ) (v : A) → get_elem? l j ≡ some v → g v ≤ total g l
    term_le [] j v e = absurd (some-ne-none v (sym e))
    term_le (x ∷ xs) zero v e = omega (arith, ap g (some-injective x v e))
    term_le (x ∷ xs) (suc j) v e = omega (arith, term_le xs j v e)

    pub terms_le : (l : List A) (j k : ℕ) (v u : A) → k ≢ j → get_elem? l j ≡ some v → get_elem? l k ≡ some u → g v + g u ≤ total g l
    terms_le [] j k v u n e d = absurd (some-ne-none v (sym e))
    terms_le (x ∷ xs) zero zero v u n e d = absurd (n refl)
    terms_le (x ∷ xs) zero (suc k) v u n e d = omega (arith, ap g (some-injective x v e), term_le xs k u d)
    terms_le (x ∷ xs) (suc j) zero v u n e d = omega (arith, ap g (some-injective x u d), term_le xs j v e)
    terms_le (x ∷ xs) (suc j) (suc k) v u n e d = omega (arith, terms_le xs j k v u (λ h. n (ap suc h)) e d)

    pub total-zero : (l : List A) → ((j : ℕ) (u : A) → get_elem? l j ≡ some u → g u ≡ 0) → total g l ≡ 0
    total-zero [] h = refl
    total-zero (x ∷ xs) h = omega (arith, h 0 x refl, total-zero xs (λ j u e. h (suc j) u e))

    pub total-only : (l : List A) (j : ℕ) (v : A) → get_elem? l j ≡ some v → ((k : ℕ) (u : A) → k ≢ j → get_elem? l k ≡ some u → g u ≡ 0) → total g l ≡ g v
    total-only [] j v e h = absurd (some-ne-none v (sym e))
    total-only (x ∷ xs) zero v e h = omega (arith, ap g (some-injective x v e), total-zero xs (λ k u d. h (suc k) u (λ z. omega arith) d))
    total-only (x ∷ xs) (suc j) v e h = omega (arith, h 0 x (λ z. omega arith) refl, total-only xs j v e (λ k u n d. h (suc k) u (λ z. n (omega (arith, z))) d))

module _ {A : Type 0} where
  pub append-none : (l : List A) → l ++ [] ≡ l
  append-none [] = refl
  append-none (x ∷ xs) = ap (λ (ys : List A). x ∷ ys) (append-none xs)

  pub append-empty : (xs ys : List A) → xs ++ ys ≡ [] → (xs ≡ []) × (ys ≡ [])
  append-empty [] ys e = (refl, e)
  append-empty (x ∷ xs) ys e = absurd (cc)

  pub each-elem : (P : A → Type 0) (l : List A) → Each P l → (j : ℕ) (u : A) → get_elem? l j ≡ some u → P u
  each-elem P [] e j u h = absurd (some-ne-none u (sym h))
  each-elem P (x ∷ xs) e zero u h = subst P (some-injective x u h) e.0
  each-elem P (x ∷ xs) e (suc j) u h = each-elem P xs e.1 j u h

  pub each-append : (P : A → Type 0) (l m : List A) → ((j : ℕ) (u : A) → get_elem? l j ≡ some u → P u) → Each P m → (j : ℕ) (u : A) → get_elem? (l ++ m) j ≡ some u → P u
  each-append P [] m h e j u d = each-elem P m e j u d
  each-append P (x ∷ xs) m h e zero u d = h zero u d
  each-append P (x ∷ xs) m h e (suc j) u d = each-append P xs m (λ i a b. h (suc i) a b) e j u d

  pub Each-all : (P : A → Type 0) → ((a : A) → P a) → (l : List A) → Each P l
  Each-all P h [] = tt
  Each-all P h (x ∷ xs) = (h x, Each-all P h xs)

  pub Each-two : (P Q R : A → Type 0) → ((a : A) → P a → Q a → R a) → (l : List A) → Each P l → Each Q l → Each R l
  Each-two P Q R h [] e d = tt
  Each-two P Q R h (x ∷ xs) e d = (h x e.0 d.0, Each-two P Q R h xs e.1 d.1)

pub below-from_on : (f : ℕ → ℕ) (i n : ℕ) → below f (i + n) ≡ below f i + total f (from_on i n)
below-from_on f i zero = let e : i + 0 ≡ i = omega arith in omega (arith, ap (below f) e)
below-from_on f i (suc n) = let e : i + suc n ≡ suc i + n = omega arith in omega (arith, ap (below f) e, below-from_on f (suc i) n)

pub hit-same : (k : ℕ) → hit k k ≡ 1
hit-same k = ap (λ b. cond b 1 0) (eq-eqb k k refl)

pub hit-else : (k x : ℕ) → x ≢ k → hit k x ≡ 0
hit-else k x ne = ap (λ b. cond b 1 0) (ne_eqb x k ne)

pub below-hit : (k n : ℕ) → (below (hit k) n ≤ 1) × (n ≤ k → below (hit k) n ≡ 0)
below-hit k zero = (omega arith, λ _. refl)
below-hit k (suc n) =
    let before = below-hit k n in
    dite (ℕ_discrete n k)
    (λ e. let none-yet = before.1 (omega arith) in let one : hit k n ≡ 1 = ap (λ b. cond b 1 0) (eq-eqb n k e) in (omega arith, λ h. absurd (omega arith)))
    (λ ne. let zero-here : hit k n ≡ 0 = ap (λ b. cond b 1 0) (ne_eqb n k ne) in (omega (arith, before.0), λ h. omega (arith, before.1 (omega arith))))

-- a list in which k counts for nothing does not have k
pub no-hit : (k : ℕ) (l : List ℕ) → total (hit k) l ≡ 0 → Each (λ (x : ℕ). x ≢ k) l
no-hit k [] e = tt
no-hit k (x ∷ xs) e = ((λ (h : x ≡ k). let one : hit k x ≡ 1 = ap (λ b. cond b 1 0) (eq-eqb x k h) in absurd (omega (arith, e))), no-hit k xs (omega (arith, e)))

pub total-pairs : (f : ℕ → ℕ) (h : ℕ) (l : List ℕ) → total (second f) (map (λ (n : ℕ). (h, n)) l) ≡ total f l
total-pairs f h [] = refl
total-pairs f h (x ∷ xs) = omega (arith, total-pairs f h xs)

pub below-inside : (k n : ℕ) → 0 < below (hit k) n → k < n
below-inside k n h = dite (dec_le n k) (λ d. absurd (omega (arith, h, (below-hit k n).1 d))) (λ no. lt_of_not-le no)

module _ {A : Type 0} where
  pub total-plus : (f g : A → ℕ) (l : List A) → total (λ (a : A). f a + g a) l ≡ total f l + total g l
  total-plus f g [] = refl
  total-plus f g (x ∷ xs) = omega (arith, total-plus f g xs)

where-none : (a c : ℕ) (l : List ℕ) → total (hit a) l ≡ 0 → total (λ (s : ℕ). cond (eqb s a) c 0) l ≡ 0
where-none a c [] e = refl
where-none a c (x ∷ xs) e = go (λ h. where-none a c xs h) (eqb x a) e
  where
    go : (total (hit a) xs ≡ 0 → total (λ (s : ℕ). cond (eqb s a) c 0) xs ≡ 0) → (b : Bool) → cond b 1 0 + total (hit a) xs ≡ 0 → cond b c 0 + total (λ (s : ℕ). cond (eqb s a) c 0) xs ≡ 0
    go r true h = absurd (omega (arith, h))
    go r false h = omega (arith, r (omega (arith, h)))

total-where : (a c : ℕ) (l : List ℕ) → total (hit a) l ≤ 1 → total (λ (s : ℕ). cond (eqb s a) c 0) l ≤ c
total-where a c [] h = omega arith
total-where a c (x ∷ xs) h = go (λ h'. total-where a c xs h') (eqb x a) h
  where
    go : (total (hit a) xs ≤ 1 → total (λ (s : ℕ). cond (eqb s a) c 0) xs ≤ c) → (b : Bool) → cond b 1 0 + total (hit a) xs ≤ 1 → cond b c 0 + total (λ (s : ℕ). cond (eqb s a) c 0) xs ≤ c
    go r true h' = omega (arith, where-none a c xs (omega (arith, h')))
    go r false h' = omega (arith, r (omega (arith, h')))

-- a pair counts for at most one log of a list in which each stands once
pub pairs-once : (m : ℕ) (owns : List ℕ) (ps : List (ℕ × ℕ)) → ((k : ℕ) → total (hit k) owns ≤ 1) → total (λ (s : ℕ). total (pair_of s m) ps) owns ≤ total (second (hit m)) ps
pairs-once m owns [] h = omega (arith, total-zero (λ (_ : ℕ). 0) owns (λ j u e. refl))
pairs-once m owns (p ∷ ps) h = omega (arith, total-plus (λ (s : ℕ). pair_of s m p) (λ (s : ℕ). total (pair_of s m) ps) owns, total-where p.0 (hit m p.1) owns (h p.0), pairs-once m owns ps h)

pub total-mono : {A : Type 0} (f g : A → ℕ) (l : List A) → Each (λ (a : A). f a ≤ g a) l → total f l ≤ total g l
total-mono f g [] e = omega arith
total-mono f g (x ∷ xs) e = omega (arith, e.0, total-mono f g xs e.1)

pub total-length : {A : Type 0} (l : List A) → total (λ (_ : A). 1) l ≡ length l
total-length [] = refl
total-length (x ∷ xs) = omega (arith, total-length xs)

pub below-mono : (f g : ℕ → ℕ) → ((i : ℕ) → f i ≤ g i) → (c : ℕ) → below f c ≤ below g c
below-mono f g h zero = omega arith
below-mono f g h (suc c) = omega (arith, h c, below-mono f g h c)

below-le : (g : ℕ → ℕ) (a b : ℕ) → a ≤ b → below g a ≤ below g b
below-le g a zero h = omega (arith, ap (below g) (let e : a ≡ 0 = omega (arith, h) in e))
below-le g a (suc b) h = dite (ℕ_discrete a (suc b)) (λ (is : a ≡ suc b). omega (arith, ap (below g) is)) (λ (no : a ≢ suc b). omega (arith, below-le g a b (le-apart a b h no)))
  where
    le-apart : (a b : ℕ) → a ≤ suc b → a ≢ suc b → a ≤ b
    le-apart a b h ne = dite (dec_le a b) (λ y. y) (λ z. absurd (ne (omega (arith, h, lt_of_not-le z))))

pub below-all : (g : ℕ → ℕ) (n : ℕ) → ((i : ℕ) → n ≤ i → g i ≡ 0) → (c : ℕ) → below g c ≤ below g n
below-all g n h zero = omega arith
below-all g n h (suc c) = dite (dec_le n c) (λ y. omega (arith, h c y, below-all g n h c)) (λ z. below-le g (suc c) n (omega (arith, lt_of_not-le z)))

pub each-list : {A : Type 0} (P : A → Type 0) (l : List A) → ((j : ℕ) (u : A) → get_elem? l j ≡ some u → P u) → Each P l
each-list P [] h = tt
each-list P (x ∷ l) h = (h 0 x refl, each-list P l (λ j u e. h (suc j) u e))
