-- Lists of items with places.
use Rattle.std.proofs.Common.{◌≡◌, ℕ, zero, suc, ◌+◌, ◌<◌, ◌≤◌, cond, List, [], ◌∷◌, ◌++◌, length, sym, refl, ap, ap₂, subst, ⊎_elim, arith}
use mathlib.Core.Option.{some, some-injective, some-ne-none}
use lib.ListN.{get_elem?}
use Rattle.std.proofs.lemmas.Bool.{cases_lt, lt-ltb, le-ltb}
use Rattle.crossbeam_queue.proofs.Lists.{at_longer, at_last}
use Rattle.df_shardqueue.specs.Placed.{Each, items_of, Rises, Climbs, StandsIn, put, merged, weigh, below}

module _ {A : Type 0} where
  pub each_of : (P Q : A → Type 0) → ((x : A) → P x → Q x) → (xs : List A) → Each P xs → Each Q xs
  each_of P Q is [] all = tt
  each_of P Q is (x ∷ xs) all = (is x all.0, each_of P Q is xs all.1)

  pub each_both : (P Q : A → Type 0) (xs : List A) → Each P xs → Each Q xs → Each (λ x. P x × Q x) xs
  each_both P Q [] a b = tt
  each_both P Q (x ∷ xs) a b = ((a.0, b.0), each_both P Q xs a.1 b.1)

  pub each_more : (P : A → Type 0) (xs : List A) (x : A) → Each P xs → P x → Each P (xs ++ x ∷ [])
  each_more P [] x all one = (one, tt)
  each_more P (y ∷ ys) x all one = (all.0, each_more P ys x all.1 one)

  -- of a list, the one behind its front
  pub each_mid : (P : A → Type 0) (xs : List A) (y : A) (ys : List A) → Each P (xs ++ y ∷ ys) → P y
  each_mid P [] y ys all = all.0
  each_mid P (x ∷ xs) y ys all = each_mid P xs y ys all.1

  pub length_more : (xs : List A) (x : A) → length (xs ++ x ∷ []) ≡ suc (length xs)
  length_more [] x = refl
  length_more (y ∷ ys) x = let e = length_more ys x in omega (arith, e)

  -- what stands at an index of a list is inside
  pub inside : (xs : List A) (i : ℕ) (x : A) → get_elem? xs i ≡ some x → i < length xs
  inside [] i x at = absurd (some-ne-none x (sym at))
  inside (y ∷ ys) zero x at = omega arith
  inside (y ∷ ys) (suc i) x at = let e = inside ys i x at in omega (arith, e)

-- 1 at this number, 0 at the others
abbrev pub is : ℕ → ℕ → ℕ
is zero zero = 1
is zero (suc i) = 0
is (suc k) zero = 0
is (suc k) (suc i) = is k i

is_itself : (k : ℕ) → is k k ≡ 1
is_itself zero = refl
is_itself (suc k) = is_itself k

is_past : (k i : ℕ) → k < i → is k i ≡ 0
is_past zero zero low = absurd (omega (arith, low))
is_past zero (suc i) low = refl
is_past (suc k) zero low = refl
is_past (suc k) (suc i) low = is_past k i (omega (arith, low))

is_before : (k i : ℕ) → i < k → is k i ≡ 0
is_before zero i low = absurd (omega (arith, low))
is_before (suc k) zero low = refl
is_before (suc k) (suc i) low = is_before k i (omega (arith, low))

pub is_most : (k i : ℕ) → is k i ≤ 1
is_most zero zero = omega arith
is_most zero (suc i) = omega arith
is_most (suc k) zero = omega arith
is_most (suc k) (suc i) = is_most k i

-- not below k and not k
is_above : (k i : ℕ) → k ≤ i → is k i ≡ 0 → k < i
is_above zero zero low e = absurd (omega (arith, e))
is_above zero (suc i) low e = omega arith
is_above (suc k) zero low e = absurd (omega (arith, low))
is_above (suc k) (suc i) low e = let h = is_above k i (omega (arith, low)) e in omega (arith, h)

-- none below n is k
below_before : (k n : ℕ) → n ≤ k → below (is k) n ≡ 0
below_before k zero low = refl
below_before k (suc n) low = let e = below_before k n (omega (arith, low)) in let e' = is_before k n (omega (arith, low)) in omega (arith, e, e')

-- one at most is
pub below_is : (k n : ℕ) → below (is k) n ≤ 1
below_is k zero = omega arith
below_is k (suc n) = ⊎_elim (λ (high : k < n). let e = below_is k n in let e' = is_past k n high in omega (arith, e, e'))
    (λ (low : n ≤ k). let e = below_before k n low in let e' = is_most k n in omega (arith, e, e')) (cases_lt k n)

-- how many are below n
pub below_ones : (n : ℕ) → below (λ _. 1) n ≡ n
below_ones zero = refl
below_ones (suc n) = let e = below_ones n in omega (arith, e)

module _ {M : Type 0} where
  pub weigh_more : (h : ℕ → ℕ) (es : List (ℕ × M)) (e : ℕ × M) → weigh h (es ++ e ∷ []) ≡ weigh h es + h e.0
  weigh_more h [] e = omega arith
  weigh_more h (x ∷ es) e = let i = weigh_more h es e in omega (arith, i)

  pub weigh_ones : (es : List (ℕ × M)) → weigh (λ _. 1) es ≡ length es
  weigh_ones [] = refl
  weigh_ones (e ∷ es) = let i = weigh_ones es in omega (arith, i)

  pub items_of_more : (es : List (ℕ × M)) (e : ℕ × M) → items_of (es ++ e ∷ []) ≡ items_of es ++ e.1 ∷ []
  items_of_more [] e = refl
  items_of_more (x ∷ es) e = ap (λ l. x.1 ∷ l) (items_of_more es e)

  -- ---- one more at the back

  pub stands_longer : (xs ys : List M) (e : ℕ × M) → StandsIn xs e → StandsIn (xs ++ ys) e
  stands_longer xs ys e at = at_longer xs ys e.0 e.1 at

  pub stands_last : (xs : List M) (x : M) → StandsIn (xs ++ x ∷ []) (length xs, x)
  stands_last xs x = at_last xs x (length xs) refl

  pub all_below : (xs : List M) (es : List (ℕ × M)) → Each (StandsIn xs) es → Each (λ (e : ℕ × M). e.0 < length xs) es
  all_below xs es = each_of (StandsIn xs) (λ (e : ℕ × M). e.0 < length xs) (λ e at. inside xs e.0 e.1 at) es

  pub climbs_more : (es : List (ℕ × M)) (e : ℕ × M) → Climbs es → Each (λ (other : ℕ × M). other.0 < e.0) es → Climbs (es ++ e ∷ [])
  climbs_more [] e climbs low = (tt, tt)
  climbs_more (x ∷ es) e climbs low = (each_more (λ (other : ℕ × M). x.0 ≤ other.0) es e climbs.0 (let h = low.0 in omega (arith, h)), climbs_more es e climbs.1 low.1)

  -- ---- two lists in one

  put_by : (P : List (ℕ × M) → Type 0) (e other : ℕ × M) (es : List (ℕ × M)) → (e.0 < other.0 → P (e ∷ other ∷ es)) → (other.0 ≤ e.0 → P (other ∷ put e es)) → P (put e (other ∷ es))
  put_by P e other es before behind = ⊎_elim (λ (low : e.0 < other.0). subst (λ b. P (cond b (e ∷ other ∷ es) (other ∷ put e es))) (sym (lt-ltb e.0 other.0 low)) (before low))
      (λ (high : other.0 ≤ e.0). subst (λ b. P (cond b (e ∷ other ∷ es) (other ∷ put e es))) (sym (le-ltb e.0 other.0 high)) (behind high)) (cases_lt e.0 other.0)

  put_each : (P : ℕ × M → Type 0) (e : ℕ × M) (es : List (ℕ × M)) → P e → Each P es → Each P (put e es)
  put_each P e [] one all = (one, tt)
  put_each P e (x ∷ es) one all = put_by (Each P) e x es (λ _. (one, all)) (λ _. (all.0, put_each P e es one all.1))

  pub merged_each : (P : ℕ × M → Type 0) (xs es : List (ℕ × M)) → Each P xs → Each P es → Each P (merged xs es)
  merged_each P [] es more all = all
  merged_each P (x ∷ xs) es more all = put_each P x (merged xs es) more.0 (merged_each P xs es more.1 all)

  put_climbs : (e : ℕ × M) (es : List (ℕ × M)) → Climbs es → Climbs (put e es)
  put_climbs e [] climbs = (tt, tt)
  put_climbs e (x ∷ es) climbs = put_by Climbs e x es
      (λ low. ((omega (arith, low), each_of (λ (other : ℕ × M). x.0 ≤ other.0) (λ (other : ℕ × M). e.0 ≤ other.0) (λ other h. omega (arith, h, low)) es climbs.0), climbs))
      (λ high. (put_each (λ (other : ℕ × M). x.0 ≤ other.0) e es high climbs.0, put_climbs e es climbs.1))

  pub merged_climbs : (xs es : List (ℕ × M)) → Climbs es → Climbs (merged xs es)
  merged_climbs [] es climbs = climbs
  merged_climbs (x ∷ xs) es climbs = put_climbs x (merged xs es) (merged_climbs xs es climbs)

  put_weigh : (h : ℕ → ℕ) (e : ℕ × M) (es : List (ℕ × M)) → weigh h (put e es) ≡ h e.0 + weigh h es
  put_weigh h e [] = refl
  put_weigh h e (x ∷ es) = put_by (λ l. weigh h l ≡ h e.0 + (h x.0 + weigh h es)) e x es (λ _. refl) (λ _. let i = put_weigh h e es in omega (arith, i))

  pub merged_weigh : (h : ℕ → ℕ) (xs es : List (ℕ × M)) → weigh h (merged xs es) ≡ weigh h xs + weigh h es
  merged_weigh h [] es = omega arith
  merged_weigh h (x ∷ xs) es = let i = merged_weigh h xs es in let j = put_weigh h x (merged xs es) in omega (arith, i, j)

  -- ---- no place twice

  above : (k : ℕ) (es : List (ℕ × M)) → Each (λ (e : ℕ × M). k ≤ e.0) es → weigh (is k) es ≡ 0 → Each (λ (e : ℕ × M). k < e.0) es
  above k [] low none = tt
  above k (e ∷ es) low none = (is_above k e.0 low.0 (omega (arith, none)), above k es low.1 (omega (arith, none)))

  -- places that climb, and none twice, rise
  pub rises : (es : List (ℕ × M)) → Climbs es → ((k : ℕ) → weigh (is k) es ≤ 1) → Rises es
  rises [] climbs once = tt
  rises (e ∷ es) climbs once = (
    above e.0 es climbs.0 (let a = once e.0 in let b = is_itself e.0 in omega (arith, a, b)),
    rises es climbs.1 (λ k. let a = once k in omega (arith, a)),
  )

  -- ---- as many places that rise as there are places

  -- rising places from k on and below m
  fits : (k m : ℕ) (es : List (ℕ × M)) → k ≤ m → Rises es → Each (λ (e : ℕ × M). (k ≤ e.0) × (e.0 < m)) es → length es + k ≤ m
  fits k m [] low up all = omega (arith, low)
  fits k m (e ∷ es) low up all =
      let i = fits (suc e.0) m es (let h = all.0.1 in omega (arith, h)) up.1 (each_both (λ (x : ℕ × M). suc e.0 ≤ x.0) (λ (x : ℕ × M). x.0 < m) es up.0 (each_of (λ (x : ℕ × M). (k ≤ x.0) × (x.0 < m)) (λ (x : ℕ × M). x.0 < m) (λ x h. h.1) es all.1)) in
      let h = all.0.0 in omega (arith, i, h)

  -- it stands in the list, whose first place is k
  abbrev StandsFrom : ℕ → List M → ℕ × M → Type 0
  StandsFrom k xs e = (i : ℕ) × (e.0 ≡ k + i) × (get_elem? xs i ≡ some e.1)

  past : (k : ℕ) (x : M) (xs : List M) (e : ℕ × M) (i : ℕ) → k < e.0 → e.0 ≡ k + i → get_elem? (x ∷ xs) i ≡ some e.1 → StandsFrom (suc k) xs e
  past k x xs e zero high place at = absurd (omega (arith, high, place))
  past k x xs e (suc i) high place at = (i, omega (arith, place), at)

  later : (k : ℕ) (x : M) (xs : List M) (e : ℕ × M) → (k < e.0) × StandsFrom k (x ∷ xs) e → StandsFrom (suc k) xs e
  later k x xs e h = past k x xs e h.1.0 h.0 h.1.1 h.1.2

  place_below : (k : ℕ) (xs : List M) (e : ℕ × M) → StandsFrom k xs e → e.0 < k + length xs
  place_below k xs e h = let low = inside xs h.0 e.1 h.2 in let place = h.1 in omega (arith, low, place)

  first_is : (x y : M) (xs : List M) (i : ℕ) → i ≡ 0 → get_elem? (x ∷ xs) i ≡ some y → y ≡ x
  first_is x y xs zero none at = sym (some-injective x y at)
  first_is x y xs (suc i) none at = absurd (omega (arith, none))

  full : (k : ℕ) (xs : List M) (es : List (ℕ × M)) → Rises es → Each (StandsFrom k xs) es → length es ≡ length xs → items_of es ≡ xs
  full k [] [] up all many = refl
  full k [] (e ∷ es) up all many = absurd (omega (arith, many))
  full k (x ∷ xs) [] up all many = absurd (omega (arith, many))
  full k (x ∷ xs) (e ∷ es) up all many =
      let first = all.0 in
      let place : e.0 ≡ k + first.0 = first.1 in
      let after : Each (λ (o : ℕ × M). k < o.0) es = each_of (λ (o : ℕ × M). e.0 < o.0) (λ (o : ℕ × M). k < o.0) (λ o h. omega (arith, h, place)) es up.0 in
      let rest = full (suc k) xs es up.1 (each_of (λ (o : ℕ × M). (k < o.0) × StandsFrom k (x ∷ xs) o) (StandsFrom (suc k) xs) (later k x xs) es (each_both (λ (o : ℕ × M). k < o.0) (StandsFrom k (x ∷ xs)) es after all.1)) (omega (arith, many)) in
      let high = k + length (x ∷ xs) in
      let low : e.0 < high = place_below k (x ∷ xs) e first in
      let room = fits (suc e.0) high es low up.1 (each_both (λ (o : ℕ × M). suc e.0 ≤ o.0) (λ (o : ℕ × M). o.0 < high) es up.0 (each_of (StandsFrom k (x ∷ xs)) (λ (o : ℕ × M). o.0 < high) (place_below k (x ∷ xs)) es all.1)) in
      let none : first.0 ≡ 0 = omega (arith, room, place, many) in
      ap₂ (λ (y : M) (l : List M). y ∷ l) (first_is x e.1 xs first.0 none first.2) rest

  -- so many rising places in a list are all of it
  pub is_full : (xs : List M) (es : List (ℕ × M)) → Rises es → Each (StandsIn xs) es → length es ≡ length xs → items_of es ≡ xs
  is_full xs es up all many = full 0 xs es up (each_of (StandsIn xs) (StandsFrom 0 xs) (λ e at. (e.0, omega arith, at)) es all) many
