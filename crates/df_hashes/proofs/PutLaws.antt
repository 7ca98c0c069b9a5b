-- Puts one after another: only the last put of a field stays.
use Rattle.std.proofs.lemmas.Bool.{true≢false}
use Rattle.std.proofs.Math.Seq.{drop-cons, drop-length}
use Rattle.std.proofs.Common.{◌≡◌, ℕ, suc, ◌+◌, ◌-◌, ◌<◌, ◌≤◌, Bool, true, false, cond, List, [], ◌∷◌, length, get_or, drop, refl, sym, ap, subst, ◌∙◌, arith}
use Rattle.std.specs.Prelude.{Option, Some, None, is_some, not, ◌||◌}
use Rattle.std.specs.Ordering.{eq_by_cmp}
use Rattle.std.specs.Cmp.Lexicographic.{nat_list_cmp_total, same_text, other_text}
use Rattle.std.specs.FinMap as map
use Rattle.df_model.specs.Values.{Bytes, Fields}
use Rattle.df_model.specs.Words.{same}
use Rattle.df_model.specs.Meaning.{firsts}
use Rattle.df_model.specs.Meaning.Hashes.{with_fields}
use Rattle.df_colls.specs.Roomy.{order}
use Rattle.df_hashes.specs.Counts.{has, Tells, IsPutCount, IsCounted}
use Rattle.df_hashes.proofs.MapLaws.{tied, put_here, put_other, put_again, put_swapped, put_same}

or_false : (a : Bool) → a ≡ (a || false)
or_false true = refl
or_false false = refl

or_true : (a : Bool) → (a || true) ≡ true
or_true true = refl
or_true false = refl

-- a field that is put again behind
pub put_covered : (ps : List (Bytes × Bytes)) (m : Fields) (k v : Bytes) → has (firsts ps) k ≡ true → with_fields ps (map.insert m k v) ≡ with_fields ps m
put_covered [] m k v e = cc
put_covered (p ∷ ps) m k v e = by (put_covered ps (map.insert m p.0 p.1) k v) (eq_by_cmp order k p.0) refl e
  where
    by : (has (firsts ps) k ≡ true → with_fields ps (map.insert (map.insert m p.0 p.1) k v) ≡ with_fields ps (map.insert m p.0 p.1)) → (b : Bool) → eq_by_cmp order k p.0 ≡ b → (b || has (firsts ps) k) ≡ true → with_fields ps (map.insert (map.insert m k v) p.0 p.1) ≡ with_fields ps (map.insert m p.0 p.1)
    by later true t h = ap (with_fields ps) (subst (λ x. map.insert (map.insert m x v) p.0 p.1 ≡ map.insert m p.0 p.1) (sym (tied k p.0 t)) (put_again m p.0 v p.1))
    by later false t h = ap (with_fields ps) (put_swapped m k p.0 v p.1 t) ∙ later h

-- a field that isn't
pub put_apart : (ps : List (Bytes × Bytes)) (m : Fields) (k v : Bytes) → has (firsts ps) k ≡ false → with_fields ps (map.insert m k v) ≡ map.insert (with_fields ps m) k v
put_apart [] m k v e = refl
put_apart (p ∷ ps) m k v e = by (put_apart ps (map.insert m p.0 p.1) k v) (eq_by_cmp order k p.0) refl e
  where
    by : (has (firsts ps) k ≡ false → with_fields ps (map.insert (map.insert m p.0 p.1) k v) ≡ map.insert (with_fields ps (map.insert m p.0 p.1)) k v) → (b : Bool) → eq_by_cmp order k p.0 ≡ b → (b || has (firsts ps) k) ≡ false → with_fields ps (map.insert (map.insert m k v) p.0 p.1) ≡ map.insert (with_fields ps (map.insert m p.0 p.1)) k v
    by later true t h = cc
    by later false t h = ap (with_fields ps) (put_swapped m k p.0 v p.1 t) ∙ later h

pub held_apart : (ps : List (Bytes × Bytes)) (m : Fields) (k : Bytes) → has (firsts ps) k ≡ false → map.get (with_fields ps m) k ≡ map.get m k
held_apart [] m k e = refl
held_apart (p ∷ ps) m k e = by (held_apart ps (map.insert m p.0 p.1) k) (eq_by_cmp order k p.0) refl e
  where
    by : (has (firsts ps) k ≡ false → map.get (with_fields ps (map.insert m p.0 p.1)) k ≡ map.get (map.insert m p.0 p.1) k) → (b : Bool) → eq_by_cmp order k p.0 ≡ b → (b || has (firsts ps) k) ≡ false → map.get (with_fields ps (map.insert m p.0 p.1)) k ≡ map.get m k
    by later true t h = cc
    by later false t h = later h ∙ put_other m p.0 p.1 k t

-- ---- the count with one more pair in front

module _ (p : Bytes × Bytes) (ps : List (Bytes × Bytes)) (m : Fields) (new : ℕ) (alters : Bool) where
  Counts : ℕ → Bool → Fields → Type 0
  Counts n a now = (map.len now ≡ n + map.len m) × Tells a m now

  counted : (n : ℕ) (a : Bool) (now : Fields) → with_fields (p ∷ ps) m ≡ now → map.len now ≡ n + map.len m → Tells a m now → IsPutCount n a (p ∷ ps) m
  counted n a now e size tells = record { size = ap map.len e ∙ size; tells = subst (λ x. Tells a m x) (sym e) tells }

  -- the field is put again behind
  again_counted : IsPutCount new alters ps m → has (firsts ps) p.0 ≡ true → IsPutCount new alters (p ∷ ps) m
  again_counted c e = counted new alters (with_fields ps m) (put_covered ps m p.0 p.1 e) c.size c.tells

  -- the field is new
  new_counted : IsPutCount new alters ps m → has (firsts ps) p.0 ≡ false → map.get m p.0 ≡ None → IsPutCount (new + 1) true (p ∷ ps) m
  new_counted c e none =
      let now = with_fields ps m in
      let size : map.len (map.insert now p.0 p.1) ≡ map.len now + 1 =
      map.len-insert nat_list_cmp_total now p.0 p.1 ∙ ap (λ h. cond (is_some h) (map.len now) (map.len now + 1)) (held_apart ps m p.0 e ∙ none) in
      let more : map.len (map.insert now p.0 p.1) ≡ new + 1 + map.len m = omega (arith, size, c.size) in
      counted (new + 1) true (map.insert now p.0 p.1) (put_apart ps m p.0 p.1 e) more
      (record { yes = λ _ same. absurd (omega (arith, more, ap map.len same)); no = λ f. cc })

  -- the field holds something
  held_size : has (firsts ps) p.0 ≡ false → (b : Bytes) → map.get m p.0 ≡ Some b → IsPutCount new alters ps m → map.len (map.insert (with_fields ps m) p.0 p.1) ≡ new + map.len m
  held_size e b held c =
      map.len-insert nat_list_cmp_total (with_fields ps m) p.0 p.1
      ∙ ap (λ h. cond (is_some h) (map.len (with_fields ps m)) (map.len (with_fields ps m) + 1)) (held_apart ps m p.0 e ∙ held) ∙ c.size

  held_counted : IsPutCount new alters ps m → has (firsts ps) p.0 ≡ false → (b : Bytes) → map.get m p.0 ≡ Some b → (t : Bool) → t ≡ same b p.1 → IsPutCount new (alters || not t) (p ∷ ps) m
  held_counted c e b held true t =
      let as_held : map.get (with_fields ps m) p.0 ≡ Some p.1 = held_apart ps m p.0 e ∙ held ∙ ap Some (same_text b p.1 t) in
      counted new (alters || false) (with_fields ps m) (put_apart ps m p.0 p.1 e ∙ put_same (with_fields ps m) p.0 p.1 as_held) c.size
      (subst (λ a. Tells a m (with_fields ps m)) (or_false alters) c.tells)
  held_counted c e b held false t =
      counted new (alters || true) (map.insert (with_fields ps m) p.0 p.1) (put_apart ps m p.0 p.1 e) (held_size e b held c)
      (record {
        yes = λ _ equal. other_text b p.1 t (some_same (sym held ∙ sym (ap (λ x. map.get x p.0) equal) ∙ put_here (with_fields ps m) p.0 p.1));
        no = λ f. absurd (true≢false (sym (or_true alters) ∙ f));
      })
    where
      some_same : {a b : Bytes} → Some a ≡ Some b → a ≡ b
      some_same e = cc

pub put_counted : (p : Bytes × Bytes) (ps : List (Bytes × Bytes)) (m : Fields) (again : Bool) (new next : ℕ) (alters alters_next : Bool)
    → again ≡ has (firsts ps) p.0 → IsPutCount new alters ps m → IsCounted again p.1 (map.get m p.0) new alters next alters_next → IsPutCount next alters_next (p ∷ ps) m
put_counted p ps m true new next alters alters_next e c h = rw (h.0, h.1) (again_counted p ps m new alters c (sym e))
put_counted p ps m false new next alters alters_next e c h = by (map.get m p.0) refl h
  where
    by : (held : Option Bytes) → map.get m p.0 ≡ held → IsCounted false p.1 held new alters next alters_next → IsPutCount next alters_next (p ∷ ps) m
    by None g h = rw (h.0, h.1) (new_counted p ps m new alters c (sym e) g)
    by (Some b) g h = rw (h.0, h.1) (held_counted p ps m new alters c (sym e) b g (same b p.1) refl)

-- ---- lists from a place on

pub before : {A : Type 0} (xs : List A) (i : ℕ) (x : A) → 0 < i → i ≤ length xs → x ≡ get_or xs (i - 1) x → drop (i - 1) xs ≡ x ∷ drop i xs
before xs i x some within is =
    let next : suc (i - 1) ≡ i = omega arith in
    drop-cons xs (i - 1) x (omega arith) ∙ ap (λ y. y ∷ drop (suc (i - 1)) xs) (sym is) ∙ ap (λ n. x ∷ drop n xs) next

pub put_none : (ps : List (Bytes × Bytes)) (m : Fields) (i : ℕ) → i ≡ length ps → IsPutCount 0 false (drop i ps) m
put_none ps m i e = subst (λ qs. IsPutCount 0 false qs m) (sym (ap (λ n. drop n ps) e ∙ drop-length ps)) (record { size = omega arith; tells = record { yes = λ f. cc; no = λ _. refl } })

pub put_before : (ps : List (Bytes × Bytes)) (m : Fields) (i : ℕ) (p : Bytes × Bytes) (behind : List (Bytes × Bytes)) (again : Bool) (new next : ℕ) (alters alters_next : Bool)
    → drop (i - 1) ps ≡ p ∷ drop i ps → behind ≡ drop i ps → again ≡ has (firsts behind) p.0 → IsPutCount new alters (drop i ps) m → IsCounted again p.1 (map.get m p.0) new alters next alters_next
    → IsPutCount next alters_next (drop (i - 1) ps) m
put_before ps m i p behind again new next alters alters_next e b a c h =
    rw e (put_counted p (drop i ps) m again new next alters alters_next (a ∙ ap (λ x. has (firsts x) p.0) b) c h)

-- one pair alone
pub tells_new : (m : Fields) (k v : Bytes) (ps : List (Bytes × Bytes)) → map.contains_key m k ≡ false → ps ≡ (k, v) ∷ [] → Tells true m (with_fields ps m)
tells_new m k v ps none e = record {
  yes = λ _ same. true≢false (sym (ap is_some (put_here m k v)) ∙ ap (λ x. map.contains_key x k) (sym (ap (λ x. with_fields x m) e) ∙ same) ∙ none);
  no = λ f. cc;
}
