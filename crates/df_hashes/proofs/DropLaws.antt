-- Removals one after another.
use Rattle.std.proofs.Common.{◌≡◌, ℕ, ◌+◌, ◌-◌, ◌<◌, Bool, true, false, cond, List, [], ◌∷◌, length, drop, refl, sym, ap, subst, ◌∙◌, arith}
use Rattle.std.proofs.Math.Seq.{drop-length}
use Rattle.std.specs.Prelude.{Option, Some, None, is_some, not, ◌||◌, ◌&&◌}
use Rattle.std.specs.Ordering.{eq_by_cmp}
use Rattle.std.specs.Cmp.Lexicographic.{nat_list_cmp_total}
use Rattle.std.specs.FinMap as map
use Rattle.df_model.specs.Values.{Bytes, Fields}
use Rattle.df_model.specs.Meaning.Hashes.{without_fields}
use Rattle.df_colls.specs.Roomy.{order}
use Rattle.df_colls.proofs.CountLaws.{some_entry}
use Rattle.df_hashes.specs.Counts.{has, IsDropCount}
use Rattle.df_hashes.proofs.MapLaws.{tied, gone_other, gone_again, gone_swapped, gone_none}

-- a field that is removed again behind
drop_covered : (ws : List Bytes) (m : Fields) (w : Bytes) → has ws w ≡ true → without_fields ws (map.remove m w) ≡ without_fields ws m
drop_covered [] m w e = cc
drop_covered (x ∷ ws) m w e = by (drop_covered ws (map.remove m x) w) (eq_by_cmp order w x) refl e
  where
    by : (has ws w ≡ true → without_fields ws (map.remove (map.remove m x) w) ≡ without_fields ws (map.remove m x)) → (b : Bool) → eq_by_cmp order w x ≡ b → (b || has ws w) ≡ true → without_fields ws (map.remove (map.remove m w) x) ≡ without_fields ws (map.remove m x)
    by later true t h = ap (without_fields ws) (subst (λ y. map.remove (map.remove m y) x ≡ map.remove m x) (sym (tied w x t)) (gone_again m x))
    by later false t h = ap (without_fields ws) (gone_swapped m w x) ∙ later h

drop_apart : (ws : List Bytes) (m : Fields) (w : Bytes) → without_fields ws (map.remove m w) ≡ map.remove (without_fields ws m) w
drop_apart [] m w = refl
drop_apart (x ∷ ws) m w = ap (without_fields ws) (gone_swapped m w x) ∙ drop_apart ws (map.remove m x) w

held_apart : (ws : List Bytes) (m : Fields) (w : Bytes) → has ws w ≡ false → map.get (without_fields ws m) w ≡ map.get m w
held_apart [] m w e = refl
held_apart (x ∷ ws) m w e = by (held_apart ws (map.remove m x) w) (eq_by_cmp order w x) refl e
  where
    by : (has ws w ≡ false → map.get (without_fields ws (map.remove m x)) w ≡ map.get (map.remove m x) w) → (b : Bool) → eq_by_cmp order w x ≡ b → (b || has ws w) ≡ false → map.get (without_fields ws (map.remove m x)) w ≡ map.get m w
    by later true t h = cc
    by later false t h = later h ∙ gone_other m x w t

-- ---- the count with one more word in front

module _ (w : Bytes) (ws : List Bytes) (m : Fields) (gone : ℕ) where
  counted : (n : ℕ) (now : Fields) → without_fields (w ∷ ws) m ≡ now → map.len now + n ≡ map.len m → (n ≡ 0 → now ≡ m) → IsDropCount n (w ∷ ws) m
  counted n now e size none = record { size = ap (λ x. map.len x + n) e ∙ size; none = λ z. e ∙ none z }

  gone_counted : IsDropCount gone ws m → has ws w ≡ false → map.contains_key m w ≡ true → IsDropCount (gone + 1) (w ∷ ws) m
  gone_counted c e held =
      let now = without_fields ws m in
      let here : map.contains_key now w ≡ true = ap is_some (held_apart ws m w e) ∙ held in
      let some : 0 < map.len now = some_entry now w here in
      let size : map.len (map.remove now w) ≡ map.len now - 1 = map.len-remove nat_list_cmp_total now w ∙ ap (λ b. cond b (map.len now - 1) (map.len now)) here in
      counted (gone + 1) (map.remove now w) (drop_apart ws m w) (omega (arith, some, size, c.size)) (λ z. absurd (omega (arith, z)))

pub drop_counted : (w : Bytes) (ws : List Bytes) (m : Fields) (again held : Bool) (gone next : ℕ)
    → again ≡ has ws w → held ≡ map.contains_key m w → IsDropCount gone ws m → next ≡ cond (not again && held) (gone + 1) gone → IsDropCount next (w ∷ ws) m
drop_counted w ws m true held gone next e h c n = rw n (counted w ws m gone gone (without_fields ws m) (drop_covered ws m w (sym e)) c.size c.none)
drop_counted w ws m false true gone next e h c n = rw n (gone_counted w ws m gone c (sym e) (sym h))
drop_counted w ws m false false gone next e h c n =
    rw n (counted w ws m gone gone (without_fields ws m) (drop_apart ws m w ∙ gone_none (without_fields ws m) w (held_apart ws m w (sym e) ∙ none (map.get m w) (sym h))) c.size c.none)
  where
    none : (o : Option Bytes) → is_some o ≡ false → o ≡ None
    none None e = refl
    none (Some b) e = cc

pub drop_none : (ws : List Bytes) (m : Fields) (i : ℕ) → i ≡ length ws → IsDropCount 0 (drop i ws) m
drop_none ws m i e = subst (λ xs. IsDropCount 0 xs m) (sym (ap (λ n. drop n ws) e ∙ drop-length ws)) (record { size = omega arith; none = λ _. refl })

pub drop_before : (ws : List Bytes) (m : Fields) (i : ℕ) (w : Bytes) (behind : List Bytes) (again : Bool) (gone next : ℕ)
    → drop (i - 1) ws ≡ w ∷ drop i ws → behind ≡ drop i ws → again ≡ has behind w → IsDropCount gone (drop i ws) m → next ≡ cond (not again && map.contains_key m w) (gone + 1) gone
    → IsDropCount next (drop (i - 1) ws) m
drop_before ws m i w behind again gone next e b a c n =
    rw e (drop_counted w (drop i ws) m again (map.contains_key m w) gone next (a ∙ ap (λ x. has x w) b) refl c n)
