-- Counting what is new, or goes.
use Rattle.std.proofs.Common.{◌≡◌, ℕ, suc, ◌+◌, ◌-◌, ◌<◌, inl, inr, ◌≤◌, List, ◌∷◌, length, get_or, drop, Bool, true, false, cond, refl, sym, ap, ◌∙◌, arith}
use Rattle.std.proofs.Math.Seq.{drop-cons}
use Rattle.std.proofs.lemmas.Bool.{cases_lt, false≢true}
use Rattle.std.specs.Prelude.{Option, Some, None, is_some, not, ◌||◌, ◌&&◌}
use Rattle.std.specs.Ordering.{nat_cmp, eq_by_cmp}
use Rattle.std.specs.Cmp.Lexicographic.{slice_cmp, nat_list_cmp_total}
use Rattle.std.specs.Borrow.{Bor}
use Rattle.std.specs.Option.{option_copied}
use Rattle.std.specs.FinMap as map
use Rattle.df_model.specs.Values.{Bytes, Members}
use Rattle.df_colls.specs.Counting.{Grown, Shrunk}

or_false : (a : Bool) → a ≡ (a || false)
or_false true = refl
or_false false = refl

and_true : (a : Bool) → a ≡ (a && true)
and_true true = refl
and_true false = refl

pub none_met : (q : Bytes) → map.contains_key (map.empty {X = Unit {0}} {R = slice_cmp nat_cmp}) q ≡ false
none_met q = ap is_some (map.get-empty (slice_cmp nat_cmp) q)

pub put_has : {Y : Type 0} (m : map.FinMap (slice_cmp nat_cmp) Y) (k : Bytes) (v : Y) (q : Bytes) → map.contains_key (map.insert m k v) q ≡ (eq_by_cmp (slice_cmp nat_cmp) q k || map.contains_key m q)
put_has m k v q = ap is_some (map.get-insert nat_list_cmp_total m k v q) ∙ some_or v (eq_by_cmp (slice_cmp nat_cmp) q k) (map.get m q)
  where
    some_or : {Z : Type 0} (z : Z) (b : Bool) (o : Option Z) → is_some (cond b (Some z) o) ≡ (b || is_some o)
    some_or z true o = refl
    some_or z false o = refl

-- a map that has a key has an entry
pub some_entry : {Y : Type 0} (m : map.FinMap (slice_cmp nat_cmp) Y) (k : Bytes) → map.contains_key m k ≡ true → 0 < map.len m
some_entry m k has = elim (cases_lt 0 (map.len m)) [
  | inl lt ↦ lt
  | inr le ↦ absurd (false≢true (sym (ap (λ x. map.contains_key x k) (map.empty_of_len m (omega (arith, le))) ∙ ap is_some (map.get-empty (slice_cmp nat_cmp) k)) ∙ has))
]

module _ {X : Type 0} where
  pub grown_none : (old : map.FinMap (slice_cmp nat_cmp) X) (met : Members) → met ≡ map.empty → Grown old old met 0
  grown_none old met e = record {
    keys = λ q. or_false (map.contains_key old q) ∙ ap (λ b. map.contains_key old q || b) (sym (ap (λ m. map.contains_key m q) e ∙ none_met q));
    size = omega arith;
  }

  pub shrunk_none : (old : map.FinMap (slice_cmp nat_cmp) X) (met : Members) → met ≡ map.empty → Shrunk old old met 0
  shrunk_none old met e = record {
    keys = λ q. and_true (map.contains_key old q) ∙ ap (λ b. map.contains_key old q && not b) (sym (ap (λ m. map.contains_key m q) e ∙ none_met q));
    size = omega arith;
  }

  gone_has : (m : map.FinMap (slice_cmp nat_cmp) X) (k q : Bytes) → map.contains_key (map.remove m k) q ≡ (not (eq_by_cmp (slice_cmp nat_cmp) q k) && map.contains_key m q)
  gone_has m k q = ap is_some (map.get-remove nat_list_cmp_total m k q) ∙ none_or (eq_by_cmp (slice_cmp nat_cmp) q k) (map.get m q)
    where
      none_or : {Z : Type 0} (b : Bool) (o : Option Z) → is_some (cond b None o) ≡ (not b && is_some o)
      none_or true o = refl
      none_or false o = refl

  pub grown_step : (old now : map.FinMap (slice_cmp nat_cmp) X) (met more : Members) (n m : ℕ) (k : Bytes) (v : X) (added had : Bool)
      → Grown old now met n → more ≡ map.insert met k tt → added ≡ not (map.contains_key met k) → had ≡ map.contains_key old k
      → m ≡ cond (added && not had) (n + 1) n → Grown old (map.insert now k v) more m
  grown_step old now met more n m k v added had g e a h count = record {
    keys = λ q. put_has now k v q ∙ ap (λ b. tie q || b) (g.keys q) ∙ swap (tie q) (map.contains_key old q) (map.contains_key met q)
        ∙ ap (λ b. map.contains_key old q || b) (sym (ap (λ s. map.contains_key s q) e ∙ put_has met k tt q));
    size = map.len-insert nat_list_cmp_total now k v ∙ sized (map.contains_key now k) (map.contains_key old k) (map.contains_key met k) added had (g.keys k) a h g.size count;
  }
    where
      tie : Bytes → Bool
      tie q = eq_by_cmp (slice_cmp nat_cmp) q k

      swap : (a b c : Bool) → (a || (b || c)) ≡ (b || (a || c))
      swap true true c = refl
      swap true false c = refl
      swap false b c = refl

      sized : (t o u added had : Bool) → t ≡ (o || u) → added ≡ not u → had ≡ o → map.len now ≡ n + map.len old → m ≡ cond (added && not had) (n + 1) n → cond t (map.len now) (map.len now + 1) ≡ m + map.len old
      sized t o u added had et ea eh es ec = rw (et, ec, ea, eh) (cases o u)
        where
          cases : (o u : Bool) → cond (o || u) (map.len now) (map.len now + 1) ≡ cond (not u && not o) (n + 1) n + map.len old
          cases true true = omega (arith, es)
          cases true false = omega (arith, es)
          cases false true = omega (arith, es)
          cases false false = omega (arith, es)

  pub shrunk_step : (old now : map.FinMap (slice_cmp nat_cmp) X) (met more : Members) (n m : ℕ) (k : Bytes) (added had : Bool)
      → Shrunk old now met n → more ≡ map.insert met k tt → added ≡ not (map.contains_key met k) → had ≡ map.contains_key old k
      → m ≡ cond (added && had) (n + 1) n → Shrunk old (map.remove now k) more m
  shrunk_step old now met more n m k added had g e a h count = record {
    keys = λ q. gone_has now k q ∙ ap (λ b. not (tie q) && b) (g.keys q) ∙ swap (tie q) (map.contains_key old q) (map.contains_key met q)
        ∙ ap (λ b. map.contains_key old q && not b) (sym (ap (λ s. map.contains_key s q) e ∙ put_has met k tt q));
    size = sized (map.contains_key now k) (map.contains_key old k) (map.contains_key met k) added had (map.len (map.remove now k)) (g.keys k) a h (map.len-remove nat_list_cmp_total now k) g.size count (some_entry now k);
  }
    where
      tie : Bytes → Bool
      tie q = eq_by_cmp (slice_cmp nat_cmp) q k

      swap : (a b c : Bool) → (not a && (b && not c)) ≡ (b && not (a || c))
      swap true true c = refl
      swap true false c = refl
      swap false true c = refl
      swap false false c = refl

      sized : (t o u added had : Bool) (l : ℕ) → t ≡ (o && not u) → added ≡ not u → had ≡ o → l ≡ cond t (map.len now - 1) (map.len now) → map.len now + n ≡ map.len old → m ≡ cond (added && had) (n + 1) n → (t ≡ true → 0 < map.len now) → l + m ≡ map.len old
      sized t o u added had l et ea eh el es ec some = rw (el, ec, ea, eh) (cases t o u et some)
        where
          cases : (t o u : Bool) → t ≡ (o && not u) → (t ≡ true → 0 < map.len now) → cond t (map.len now - 1) (map.len now) + cond (not u && o) (n + 1) n ≡ map.len old
          cases true true true e s = cc
          cases true true false e s = let p = s refl in omega (arith, es, p)
          cases true false u e s = cc
          cases false true true e s = omega (arith, es)
          cases false true false e s = cc
          cases false false true e s = omega (arith, es)
          cases false false false e s = omega (arith, es)

-- the rest of a list, after its next element
pub next_of : {Y : Type 0} (i : ℕ) (ys : List Y) (y : Y) → i < length ys → y ≡ get_or ys i y → drop i ys ≡ y ∷ drop (i + 1) ys
next_of i ys y lt is = drop-cons ys i y lt ∙ ap (λ x. x ∷ drop (suc i) ys) (sym is) ∙ ap (λ k. y ∷ drop k ys) plus
  where
    plus : suc i ≡ i + 1
    plus = omega arith

pub room_left : {Y : Type 0} (i : ℕ) (ys : List Y) (y : Y) (a b : ℕ) → drop i ys ≡ y ∷ drop (i + 1) ys → length (drop i ys) ≤ a → a ≤ b + 1 → length (drop (i + 1) ys) ≤ b
room_left i ys y a b e le more = omega (arith, ap length e, le, more)

pub copied_some : {Y : Type 0} (o : Option (Bor Y)) → is_some o ≡ is_some (option_copied o)
copied_some None = refl
copied_some (Some r) = refl
