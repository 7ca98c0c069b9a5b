-- What a key holds in the keyspace of all shards together.
use Rattle.std.proofs.Common.{◌≡◌, ◌≢◌, inl, inr, ℕ, zero, suc, ◌<◌, ◌≤◌, Bool, true, false, cond, List, [], ◌∷◌, refl, sym, ap, ◌∙◌, arith}
use Rattle.std.specs.Prelude.{Option, Some, None, ◌==◌}
use Rattle.std.proofs.lemmas.Bool.{eq-eqb, ne_eqb}
use Rattle.std.proofs.lemmas.Bool.Decides.{eqb_tells}
use Rattle.std.specs.Ordering.{nat_cmp}
use Rattle.std.specs.Cmp.Lexicographic.{slice_cmp}
use Rattle.std.specs.FinMap.{get-retain_keys, get-entries, get-empty}
use Rattle.std.specs.FinMap as fin
use Rattle.std.specs.FinMap.Entries.{find}
use Rattle.df_model.specs.Values.{Bytes, Value}
use Rattle.df_model.specs.Keyspace.{Keyspace, held}
use Rattle.df_model.specs.Hash.{shard_of}
use Rattle.df_model.proofs.LocalityLaws.{held_with, same_bytes, tied}
use Rattle.df_model.proofs.WholeLaws.{same_map_by}
use Rattle.df_log.specs.Parts.{Part, own_keys}
use Rattle.df_core.specs.Joined.{with_pairs, joined_to, joined}
use Rattle.df_core.specs.History.{part_of}

abbrev pub or_else : Option Value → Option Value → Option Value
or_else None w = w
or_else (Some v) w = Some v

first_or : (b : Bool) (v : Value) (x w : Option Value) → cond b (Some v) (or_else x w) ≡ or_else (cond b (Some v) x) w
first_or true v x w = refl
first_or false v x w = refl

-- a key holds its value in the pairs, or what it held
pub held_with_pairs : (pairs : List (Bytes × Value)) (K : Keyspace) (key : Bytes) →
    held (with_pairs pairs K) key ≡ or_else (find (slice_cmp nat_cmp) key pairs) (held K key)
held_with_pairs [] K key = refl
held_with_pairs (p ∷ pairs) K key =
    held_with (with_pairs pairs K) p.0 (Some p.1) key
    ∙ ap (cond (tied key p.0) (Some p.1)) (held_with_pairs pairs K key)
    ∙ first_or (tied key p.0) p.1 (find (slice_cmp nat_cmp) key pairs) (held K key)

pub or_none : (x w : Option Value) → w ≡ None → or_else x w ≡ x
or_none None w e = e
or_none (Some v) w e = refl

-- a shard's own keys hold what they held, and no others anything
pub held_own : (shards s : ℕ) (K : Keyspace) (key : Bytes) →
    held (own_keys shards s K) key ≡ cond (shard_of key shards == s) (held K key) None
held_own shards s K key = get-retain_keys K (λ k. shard_of k shards == s) key (λ x e. ap (λ k. shard_of k shards == s) (sym (same_bytes key x e)))

module _ (shards : ℕ) (parts : ℕ → Part) (key : Bytes) where
  step : (t : ℕ) →
      held (joined_to shards parts (suc t)) key ≡ or_else (cond (shard_of key shards == t) (held (parts t).visible key) None)
      (held (joined_to shards parts t) key)
  step t =
      held_with_pairs (fin.entries (own_keys shards t (parts t).visible)) (joined_to shards parts t) key
      ∙ ap (λ v. or_else v (held (joined_to shards parts t) key))
      (sym (get-entries (own_keys shards t (parts t).visible) key) ∙ held_own shards t (parts t).visible key)

  elsewhere : (t : ℕ) → shard_of key shards ≢ t → held (joined_to shards parts (suc t)) key ≡ held (joined_to shards parts t) key
  elsewhere t ne =
      step t ∙ ap (λ b. or_else (cond b (held (parts t).visible key) None) (held (joined_to shards parts t) key)) (ne_eqb (shard_of key shards) t ne)

  -- no shard below its own has it
  pub before : (n : ℕ) → n ≤ shard_of key shards → held (joined_to shards parts n) key ≡ None
  before zero le = get-empty (slice_cmp nat_cmp) key
  before (suc t) le = elsewhere t (λ e. omega (arith, e)) ∙ before t (omega arith)

  behind : (n : ℕ) → shard_of key shards < n →
      held (joined_to shards parts n) key ≡ held (parts (shard_of key shards)).visible key
  behind zero lt = absurd (omega arith)
  behind (suc t) lt = elim (eqb_tells (shard_of key shards) t) [
    | inl e ↦ step t
        ∙ ap (λ b. or_else (cond b (held (parts t).visible key) None) (held (joined_to shards parts t) key)) (eq-eqb (shard_of key shards) t e.1)
        ∙ or_none (held (parts t).visible key) (held (joined_to shards parts t) key) (before t (omega (arith, e.1)))
        ∙ ap (λ s. held (parts s).visible key) (sym e.1)
    | inr e ↦ elsewhere t e.1 ∙ behind t (omega (arith, e.1))
  ]

  -- a key holds what it holds on its own shard
  pub held_joined : 0 < shards → held (joined shards parts) key ≡ held (parts (shard_of key shards)).visible key
  held_joined pos = behind shards (omega arith)

-- ---- keyspaces of all shards

-- the shards show together what each of its keys holds on its shard
pub joined_is : (shards : ℕ) (parts : ℕ → Part) (K : Keyspace) → 0 < shards →
    ((key : Bytes) → held (parts (shard_of key shards)).visible key ≡ held K key) → joined shards parts ≡ K
joined_is shards parts K pos h = same_map_by (joined shards parts) K (λ key. held_joined shards parts key pos ∙ h key)

-- where the first n shards show the same, they show the same together
pub same_joined : (shards n : ℕ) (parts others : ℕ → Part) →
    ((s : ℕ) → s < n → (parts s).visible ≡ (others s).visible) → joined_to shards parts n ≡ joined_to shards others n
same_joined shards zero parts others same = refl
same_joined shards (suc t) parts others same =
    λ i. with_pairs (fin.entries (own_keys shards t (same t (omega arith) i)))
    (same_joined shards t parts others (λ s lt. same s (omega (arith, lt))) i)

-- so where each shows what it showed
pub joined_stays : (shards : ℕ) (xs ys : ℕ → Part) → ((s : ℕ) → (ys s).visible ≡ (xs s).visible) →
    joined shards ys ≡ joined shards xs
joined_stays shards xs ys same = same_joined shards shards ys xs (λ s lt. same s)

-- a keyspace that is split over its shards is whole again when they are joined
pub joined_parts : (shards : ℕ) → 0 < shards → (K : Keyspace) → joined shards (part_of shards K) ≡ K
joined_parts shards some K = joined_is shards (part_of shards K) K some (λ key.
    held_own shards (shard_of key shards) K key
    ∙ ap (λ b. cond b (held K key) None) (eq-eqb (shard_of key shards) (shard_of key shards) refl))
