-- How many keys all shards have together.
use Rattle.std.proofs.Common.{◌≡◌, ℕ, zero, suc, ◌+◌, ◌<◌, Bool, true, false, cond, is_some, List, [], ◌∷◌, refl, sym, ap, ◌∙◌, arith}
use Rattle.std.specs.Prelude.{Option, Some, None, ◌==◌}
use Rattle.std.proofs.lemmas.Bool.{eqb-true, false≢true}
use Rattle.std.specs.Ordering.{nat_cmp, is_eq}
use Rattle.std.specs.Cmp.{tied_itself}
use Rattle.std.specs.Cmp.Lexicographic.{slice_cmp, nat_list_cmp_total}
use Rattle.std.specs.FinMap.{len-insert, len-empty, get-entries, get-from_entries}
use Rattle.std.specs.FinMap as fin
use Rattle.std.specs.FinMap.Entries.{find}
use Rattle.df_model.specs.Values.{Bytes, Value}
use Rattle.df_model.specs.Keyspace.{Keyspace, held}
use Rattle.df_model.specs.Hash.{shard_of}
use Rattle.df_model.proofs.LocalityLaws.{tied}
use Rattle.df_model.proofs.WholeLaws.{same_map_by}
use Rattle.df_log.specs.Parts.{Part, own_keys}
use Rattle.df_core.specs.Joined.{with_pairs, joined_to}
use Rattle.df_core.specs.Done.{sum_of}
use Rattle.df_core.proofs.JoinedLaws.{or_none, held_with_pairs, held_own, before}

-- no key of the pairs holds anything
abbrev Apart : List (Bytes × Value) → Keyspace → Type 0
Apart pairs K = (key : Bytes) → is_some (find (slice_cmp nat_cmp) key pairs) ≡ true → held K key ≡ None

either : (b : Bool) (v : Value) (x : Option Value) → is_some x ≡ true → is_some (cond b (Some v) x) ≡ true
either true v x e = refl
either false v x e = e

grown : (b : Bool) (m n k : ℕ) → m ≡ n + k → cond b m (m + 1) ≡ cond b n (n + 1) + k
grown true m n k e = e
grown false m n k e = omega (arith, e)

len-with_pairs : (pairs : List (Bytes × Value)) (K : Keyspace) → Apart pairs K →
    fin.len (with_pairs pairs K) ≡ fin.len (fin.from_entries {R = slice_cmp nat_cmp} pairs) + fin.len K
len-with_pairs [] K apart = omega (arith, len-empty (slice_cmp nat_cmp) Value)
len-with_pairs (p ∷ pairs) K apart =
    len-insert nat_list_cmp_total new p.0 p.1
    ∙ ap (λ v. cond (is_some v) (fin.len new) (fin.len new + 1)) met
    ∙ grown (is_some (fin.get own p.0)) (fin.len new) (fin.len own) (fin.len K)
    (len-with_pairs pairs K (λ key e. apart key (either (tied key p.0) p.1 (find (slice_cmp nat_cmp) key pairs) e)))
    ∙ ap (λ n. n + fin.len K) (sym (len-insert nat_list_cmp_total own p.0 p.1))
  where
    new : Keyspace
    new = with_pairs pairs K

    own : Keyspace
    own = fin.from_entries pairs

    none : held K p.0 ≡ None
    none = apart p.0 (ap (λ r. is_some (cond (is_eq r) (Some p.1) (find (slice_cmp nat_cmp) p.0 pairs))) (tied_itself nat_list_cmp_total p.0))

    met : fin.get new p.0 ≡ fin.get own p.0
    met =
        held_with_pairs pairs K p.0
        ∙ or_none (find (slice_cmp nat_cmp) p.0 pairs) (held K p.0) none
        ∙ sym (get-from_entries nat_list_cmp_total pairs p.0)

-- a keyspace is made again of its entries
again : (K : Keyspace) → fin.from_entries (fin.entries K) ≡ K
again K = same_map_by (fin.from_entries (fin.entries K)) K (λ key. get-from_entries nat_list_cmp_total (fin.entries K) key ∙ sym (get-entries K key))

module _ (shards : ℕ) (parts : ℕ → Part) (numbers : ℕ → ℕ) where
  own_apart : (t : ℕ) → Apart (fin.entries (own_keys shards t (parts t).visible)) (joined_to shards parts t)
  own_apart t key found = go (shard_of key shards == t) refl
    where
      own : Keyspace
      own = own_keys shards t (parts t).visible

      go : (b : Bool) → (shard_of key shards == t) ≡ b → held (joined_to shards parts t) key ≡ None
      go true e = before shards parts key t (omega (arith, eqb-true (shard_of key shards) t e))
      go false e = absurd (false≢true (
          ap is_some (sym (sym (get-entries own key) ∙ held_own shards t (parts t).visible key ∙ ap (λ b. cond b (held (parts t).visible key) None) e))
          ∙ found))

  -- where the first n shards told how many keys they have, the sum is how many there are
  pub sum_joined : (n : ℕ) → ((s : ℕ) → s < n → numbers s ≡ fin.len (own_keys shards s (parts s).visible)) →
      sum_of numbers n ≡ fin.len (joined_to shards parts n)
  sum_joined zero told = sym (len-empty (slice_cmp nat_cmp) Value)
  sum_joined (suc t) told =
      ap (λ k. k + sum_of numbers t) (told t (omega arith))
      ∙ ap (λ k. fin.len own + k) (sum_joined t (λ s lt. told s (omega (arith, lt))))
      ∙ sym (len-with_pairs (fin.entries own) (joined_to shards parts t) (own_apart t)
      ∙ ap (λ K. fin.len K + fin.len (joined_to shards parts t)) (again own))
    where
      own : Keyspace
      own = own_keys shards t (parts t).visible
