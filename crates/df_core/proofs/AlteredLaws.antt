-- Values that the test takes for the same are one, and what the changes between two keyspaces make of a key.
use Rattle.std.proofs.Common.{◌≡◌, Bool, true, false, cond, List, [], ◌∷◌, refl, sym, ap, ◌∙◌}
use Rattle.std.specs.Prelude.{Option, Some, None, ◌&&◌, ◌||◌}
use Rattle.std.proofs.lemmas.Bool.{false≢true, and_parts, and_from, cond_both}
use Rattle.std.specs.Cmp.Lexicographic.{pointwise}
use Rattle.std.specs.FinMap.{same_entries_map}
use Rattle.std.specs.FinMap as fin
use Rattle.df_model.specs.Values.{Bytes, Value}
use Rattle.df_model.specs.Words.{same}
use Rattle.df_model.specs.Keyspace.{Keyspace, held}
use Rattle.df_model.specs.Access.{among}
use Rattle.df_model.proofs.LocalityLaws.{held_with, same_itself, tied}
use Rattle.df_model.proofs.WholeLaws.{tied_is_same}
use Rattle.df_footprints.proofs.ModesLaws.{same_key}
use Rattle.df_log.specs.Acts.{Changes}
use Rattle.df_log.specs.Changes.{change_of, with_changes}
use Rattle.df_core.specs.Altered.{same_value, same_held, altered}

-- ---- values

all_same : {X : Type 0} (E : X → X → Bool) → ((x y : X) → E x y ≡ true → x ≡ y) → (xs ys : List X) →
    pointwise E xs ys ≡ true → xs ≡ ys
all_same E tells [] [] e = refl
all_same E tells [] (y ∷ ys) e = absurd (false≢true e)
all_same E tells (x ∷ xs) [] e = absurd (false≢true e)
all_same E tells (x ∷ xs) (y ∷ ys) e =
    let both = and_parts (E x y) (pointwise E xs ys) e in
    λ i. tells x y both.0 i ∷ all_same E tells xs ys both.1 i

all_itself : {X : Type 0} (E : X → X → Bool) → ((x : X) → E x x ≡ true) → (xs : List X) → pointwise E xs xs ≡ true
all_itself E itself [] = refl
all_itself E itself (x ∷ xs) = and_from (E x x) (pointwise E xs xs) (itself x) (all_itself E itself xs)

same_pair : (e f : Bytes × Bytes) → (same e.0 f.0 && same e.1 f.1) ≡ true → e ≡ f
same_pair e f h =
    let both = and_parts (same e.0 f.0) (same e.1 f.1) h in
    λ i. (same_key e.0 f.0 both.0 i, same_key e.1 f.1 both.1 i)

one_value : (v w : Value) → same_value v w ≡ true → v ≡ w
one_value (Value.Str a) (Value.Str b) e = ap Value.Str (same_key a b e)
one_value (Value.Elements a) (Value.Elements b) e = ap Value.Elements (all_same same same_key a b e)
one_value (Value.Hash a) (Value.Hash b) e =
    ap Value.Hash (same_entries_map a b (all_same (λ x y. same x.0 y.0 && same x.1 y.1) same_pair (fin.entries a) (fin.entries b) e))
one_value (Value.Set a) (Value.Set b) e =
    ap Value.Set (same_entries_map a b (all_same (λ x y. same x.0 y.0) (λ x y h i. (same_key x.0 y.0 h i, tt)) (fin.entries a) (fin.entries b) e))
one_value (Value.Str a) (Value.Elements b) e = absurd (false≢true e)
one_value (Value.Str a) (Value.Hash b) e = absurd (false≢true e)
one_value (Value.Str a) (Value.Set b) e = absurd (false≢true e)
one_value (Value.Elements a) (Value.Str b) e = absurd (false≢true e)
one_value (Value.Elements a) (Value.Hash b) e = absurd (false≢true e)
one_value (Value.Elements a) (Value.Set b) e = absurd (false≢true e)
one_value (Value.Hash a) (Value.Str b) e = absurd (false≢true e)
one_value (Value.Hash a) (Value.Elements b) e = absurd (false≢true e)
one_value (Value.Hash a) (Value.Set b) e = absurd (false≢true e)
one_value (Value.Set a) (Value.Str b) e = absurd (false≢true e)
one_value (Value.Set a) (Value.Elements b) e = absurd (false≢true e)
one_value (Value.Set a) (Value.Hash b) e = absurd (false≢true e)

value_itself : (v : Value) → same_value v v ≡ true
value_itself (Value.Str a) = same_itself a
value_itself (Value.Elements a) = all_itself same same_itself a
value_itself (Value.Hash a) =
    all_itself (λ x y. same x.0 y.0 && same x.1 y.1) (λ x. and_from (same x.0 x.0) (same x.1 x.1) (same_itself x.0) (same_itself x.1)) (fin.entries a)
value_itself (Value.Set a) = all_itself (λ x y. same x.0 y.0) (λ x. same_itself x.0) (fin.entries a)

one_held : (v w : Option Value) → same_held v w ≡ true → v ≡ w
one_held None None e = refl
one_held None (Some w) e = absurd (false≢true e)
one_held (Some v) None e = absurd (false≢true e)
one_held (Some v) (Some w) e = ap (λ x. Some x) (one_value v w e)

-- what a key holds is the same as itself
pub held_itself : (v : Option Value) → same_held v v ≡ true
held_itself None = refl
held_itself (Some v) = value_itself v

-- ---- changes

-- what a key holds that held this, once a change of it is seen
abbrev pub changed_to : Option (Option Value) → Option Value → Option Value
changed_to None w = w
changed_to (Some v) w = v

-- what a key holds once the changes are seen
pub held_changed : (changes : Changes) (K : Keyspace) (key : Bytes) →
    held (with_changes changes K) key ≡ changed_to (change_of changes key) (held K key)
held_changed [] K key = refl
held_changed (c ∷ changes) K key =
    held_with (with_changes changes K) c.0 c.1 key
    ∙ ap (cond (tied key c.0) c.1) (held_changed changes K key)
    ∙ ap (λ b. cond b c.1 (changed_to (change_of changes key) (held K key))) (tied_is_same key c.0)
    ∙ first (same c.0 key)
  where
    first : (b : Bool) →
        cond b c.1 (changed_to (change_of changes key) (held K key)) ≡ changed_to (cond b (Some c.1) (change_of changes key)) (held K key)
    first true = refl
    first false = refl

module _ (old new : Keyspace) where
  -- what becomes of a key that is named
  abbrev change_at : Bytes → Option (Option Value)
  change_at key = cond (same_held (held old key) (held new key)) None (Some (held new key))

  -- what becomes of a key, if it is named
  pub change_altered : (keys : List Bytes) (key : Bytes) →
      change_of (altered old new keys) key ≡ cond (among keys key) (change_at key) None
  change_altered [] key = refl
  change_altered (k ∷ keys) key = go (same_held (held old k) (held new k)) refl (same k key) refl (change_altered keys key)
    where
      go : (stays : Bool) → same_held (held old k) (held new k) ≡ stays → (here : Bool) → same k key ≡ here →
          change_of (altered old new keys) key ≡ cond (among keys key) (change_at key) None →
          change_of (cond stays (altered old new keys) ((k, held new k) ∷ altered old new keys)) key ≡ cond (here || among keys key)
          (change_at key) None
      go true is false at rest = rest
      go true is true at rest =
          let gone : change_at key ≡ None = ap (λ q. cond (same_held (held old q) (held new q)) None (Some (held new q))) (sym (same_key k key at))
          ∙ ap (λ b. cond b None (Some (held new k))) is in
          rest
          ∙ ap (λ c. cond (among keys key) c None) gone
          ∙ cond_both (among keys key) None None (λ c. c ≡ None) (λ _. refl) (λ _. refl)
          ∙ sym gone
      go false is false at rest = ap (λ b. cond b (Some (held new k)) (change_of (altered old new keys) key)) at ∙ rest
      go false is true at rest =
          ap (λ b. cond b (Some (held new k)) (change_of (altered old new keys) key)) at
          ∙ sym (ap (λ b. cond b None (Some (held new k))) is)
          ∙ ap (λ q. cond (same_held (held old q) (held new q)) None (Some (held new q))) (same_key k key at)

  -- a key that is named, and whose changes are seen, holds what it holds in the new keyspace
  pub altered_named : (keys : List Bytes) (key : Bytes) (v : Option Value) → among keys key ≡ true → v ≡ held old key →
      changed_to (change_of (altered old new keys) key) v ≡ held new key
  altered_named keys key v named is =
      ap (λ c. changed_to c v) (change_altered keys key ∙ ap (λ b. cond b (change_at key) None) named)
      ∙ go (same_held (held old key) (held new key)) refl
    where
      go : (stays : Bool) → same_held (held old key) (held new key) ≡ stays →
          changed_to (cond stays None (Some (held new key))) v ≡ held new key
      go true e = is ∙ one_held (held old key) (held new key) e
      go false e = refl

  -- and of one that is not named nothing
  pub altered_unnamed : (keys : List Bytes) (key : Bytes) → among keys key ≡ false → change_of (altered old new keys) key ≡ None
  altered_unnamed keys key e = change_altered keys key ∙ ap (λ b. cond b (change_at key) None) e
