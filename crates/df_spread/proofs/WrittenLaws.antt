-- Keys that may be written, one after another, and which of them hold something else.
use Rattle.std.proofs.Common.{◌≡◌, Bool, true, false, cond, List, [], ◌∷◌, ◌++◌, map, refl, sym, ap, subst, ◌∙◌, append_assoc}
use Rattle.std.specs.Prelude.{Option}
use Rattle.std.proofs.lemmas.Bool.{false≢true, or_left, or_right, false_from_ne_true}
use Rattle.df_model.specs.Values.{Bytes, Value}
use Rattle.df_model.specs.Words.{same}
use Rattle.df_model.specs.Keyspace.{Keyspace, held}
use Rattle.df_model.specs.Access.{among}
use Rattle.df_model.proofs.WholeLaws.{neither, first_among, later_among}
use Rattle.df_footprints.proofs.ModesLaws.{same_key}
use Rattle.df_log.specs.Acts.{Changes}
use Rattle.df_core.specs.Altered.{same_held}
use Rattle.df_spread.specs.Written.{held_by, changed, keys_of_changes, IsEachOnce, among_all, AreApart}

-- ---- one key and those behind it

pub change_more : (K : Keyspace) (c : Bytes × Option Value) (changes : Changes) → changed K (c ∷ []) ++ changed K changes ≡ changed K (c ∷ changes)
change_more K c changes = go (same_held c.1 (held K c.0))
  where
    go : (b : Bool) → cond b (changed K []) ((c.0, held K c.0) ∷ changed K []) ++ changed K changes
        ≡ cond b (changed K changes) ((c.0, held K c.0) ∷ changed K changes)
    go true = refl
    go false = refl

pub keys-held : (K : Keyspace) (keys : List Bytes) → keys_of_changes (held_by K keys) ≡ keys
keys-held K [] = refl
keys-held K (key ∷ keys) = ap (λ l. key ∷ l) (keys-held K keys)

-- ---- what changed hangs on what the keys hold

pub changed_alike : (K L : Keyspace) (changes : Changes) →
    ((key : Bytes) → among (keys_of_changes changes) key ≡ true → held K key ≡ held L key) → changed K changes ≡ changed L changes
changed_alike K L [] h = refl
changed_alike K L (c ∷ changes) h =
    let here : held K c.0 ≡ held L c.0 = h c.0 (first_among c.0 (keys_of_changes changes)) in
    let rest : changed K changes ≡ changed L changes =
    changed_alike K L changes (λ key n. h key (later_among c.0 key (keys_of_changes changes) n)) in
    λ i. cond (same_held c.1 (here i)) (rest i) ((c.0, here i) ∷ rest i)

pub all_alike : (K L : Keyspace) (written : List Changes) → ((key : Bytes) → among_all written key ≡ true → held K key ≡ held L key) →
    map (changed K) written ≡ map (changed L) written
all_alike K L [] h = refl
all_alike K L (changes ∷ written) h =
    let here : changed K changes ≡ changed L changes =
    changed_alike K L changes (λ key n. h key (or_left (among (keys_of_changes changes) key) (among_all written key) n)) in
    let rest : map (changed K) written ≡ map (changed L) written =
    all_alike K L written (λ key n. h key (or_right (among (keys_of_changes changes) key) (among_all written key) n)) in
    λ i. here i ∷ rest i

-- once a key was taken, the others have changed as before
pub behind_key : (K L : Keyspace) (c : Bytes × Option Value) (changes : Changes) → among (keys_of_changes changes) c.0 ≡ false →
    ((key : Bytes) → same c.0 key ≡ false → held L key ≡ held K key) → changed L changes ≡ changed K changes
behind_key K L c changes apart others = changed_alike L K changes (λ key n. others key (other key n))
  where
    other : (key : Bytes) → among (keys_of_changes changes) key ≡ true → same c.0 key ≡ false
    other key n = false_from_ne_true (same c.0 key) (λ e. false≢true (sym apart ∙ ap (among (keys_of_changes changes)) (same_key c.0 key e) ∙ n))

-- and once those of a shard were
pub behind_shard : (K L : Keyspace) (changes : Changes) (written : List Changes) → AreApart (changes ∷ written) →
    ((key : Bytes) → among (keys_of_changes changes) key ≡ false → held L key ≡ held K key) →
    map (changed L) written ≡ map (changed K) written
behind_shard K L changes written apart others = all_alike L K written (λ key n. others key (other key n))
  where
    other : (key : Bytes) → among_all written key ≡ true → among (keys_of_changes changes) key ≡ false
    other key n = false_from_ne_true (among (keys_of_changes changes) key) (λ e. false≢true (sym (apart.1 key e) ∙ n))

-- ---- a step of those who take what changed

module _ (K L : Keyspace) (c : Bytes × Option Value) (old rest : Changes) (split : old ≡ c ∷ rest)
    (others : (key : Bytes) → same c.0 key ≡ false → held L key ≡ held K key) where
  pub next_once : IsEachOnce (keys_of_changes old) → (among (keys_of_changes rest) c.0 ≡ false) × IsEachOnce (keys_of_changes rest)
  next_once = subst (λ l. IsEachOnce (keys_of_changes l)) split

  pub next_others : (key : Bytes) → among (keys_of_changes old) key ≡ false → (among (keys_of_changes rest) key ≡ false) × (held L key ≡ held K key)
  next_others key h =
      let apart = neither (same c.0 key) (among (keys_of_changes rest) key) (ap (λ l. among (keys_of_changes l) key) (sym split) ∙ h) in
      (apart.1, others key apart.0)

  pub next_key : (so_far made all : Changes) → IsEachOnce (keys_of_changes old) → made ≡ so_far ++ changed K (c ∷ []) →
      so_far ++ changed K old ≡ all → made ++ changed L rest ≡ all
  next_key so_far made all once more before =
      ap (λ l. l ++ changed L rest) more
      ∙ ap (λ l. (so_far ++ changed K (c ∷ [])) ++ l) (behind_key K L c rest (next_once once).0 others)
      ∙ append_assoc so_far (changed K (c ∷ [])) (changed K rest)
      ∙ ap (λ l. so_far ++ l) (change_more K c rest)
      ∙ ap (λ l. so_far ++ changed K l) (sym split)
      ∙ before

module _ (K L : Keyspace) (changes new : Changes) (old rest : List Changes) (split : old ≡ changes ∷ rest) (apart : AreApart old)
    (others : (key : Bytes) → among (keys_of_changes changes) key ≡ false → held L key ≡ held K key) where
  pub next_apart : AreApart (changes ∷ rest)
  next_apart = subst AreApart split apart

  pub next_changes : (so_far made all : List Changes) → made ≡ so_far ++ new ∷ [] → new ≡ changed K changes →
      so_far ++ map (changed K) old ≡ all → made ++ map (changed L) rest ≡ all
  next_changes so_far made all more is before =
      ap (λ l. l ++ map (changed L) rest) more
      ∙ append_assoc so_far (new ∷ []) (map (changed L) rest)
      ∙ ap (λ x. so_far ++ x ∷ map (changed L) rest) is
      ∙ ap (λ l. so_far ++ changed K changes ∷ l) (behind_shard K L changes rest next_apart others)
      ∙ ap (λ l. so_far ++ map (changed K) l) (sym split)
      ∙ before
