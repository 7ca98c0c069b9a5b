-- The names of the keys of all shards together, in byte order.
use Rattle.std.proofs.Common.{◌≡◌, ℕ, zero, suc, ◌<◌, ◌&&◌, ◌||◌, T, is_some, List, [], ◌∷◌, map, refl, sym, ap, subst, ◌∙◌, arith}
use Rattle.std.specs.Prelude.{Option, Some, None}
use Rattle.std.specs.List.{list_any}
use Rattle.std.specs.Ordering.{nat_cmp, is_lt}
use Rattle.std.specs.Cmp.Lexicographic.{slice_cmp}
use Rattle.std.specs.FinMap.{contains_key, contains_key-keys, get-empty, entries-from_sorted, entries_sorted, is_sorted}
use Rattle.std.specs.FinMap as fin
use Rattle.std.specs.FinMap.Entries.{find, below_all, is_some-find}
use Rattle.df_model.specs.Values.{Bytes, Value, Members}
use Rattle.df_model.specs.Members.{contains, items}
use Rattle.df_model.specs.Keyspace.{Keyspace, held}
use Rattle.df_model.proofs.LocalityLaws.{tied}
use Rattle.df_model.proofs.MembersLaws.{same_members, in_with_all}
use Rattle.df_log.specs.Parts.{Part, own_keys}
use Rattle.df_core.specs.Joined.{with_pairs, joined_to}
use Rattle.df_core.specs.Done.{names_of}
use Rattle.df_core.proofs.JoinedLaws.{or_else, held_with_pairs}

-- ---- a set with the keys of a keyspace

-- the entries without their values
abbrev bare : List (Bytes × Value) → List (Bytes × Unit {0})
bare [] = []
bare (e ∷ es) = (e.0, tt) ∷ bare es

below_bare : (key : Bytes) (es : List (Bytes × Value)) →
    below_all (slice_cmp nat_cmp) key (bare es) ≡ below_all (slice_cmp nat_cmp) key es
below_bare key [] = refl
below_bare key (e ∷ es) = ap (λ b. is_lt (slice_cmp nat_cmp key e.0) && b) (below_bare key es)

sorted_bare : (es : List (Bytes × Value)) → is_sorted (slice_cmp nat_cmp) (bare es) ≡ is_sorted (slice_cmp nat_cmp) es
sorted_bare [] = refl
sorted_bare (e ∷ es) = λ i. below_bare e.0 es i && sorted_bare es i

keys_bare : (es : List (Bytes × Value)) → map (λ e. e.0) (bare es) ≡ map (λ e. e.0) es
keys_bare [] = refl
keys_bare (e ∷ es) = ap (λ keys. e.0 ∷ keys) (keys_bare es)

-- a set with the keys of a keyspace has them in the same order
same_keys : (s : Members) (K : Keyspace) → ((key : Bytes) → contains s key ≡ contains_key K key) → items s ≡ fin.keys K
same_keys s K h =
    ap (λ t. items t) (same_members s keys_of
    (λ key. h key ∙ contains_key-keys K key ∙ sym (contains_key-keys keys_of key ∙ ap (list_any (tied key)) items_of)))
    ∙ items_of
  where
    keys_of : Members
    keys_of = fin.from_sorted (bare (fin.entries K))

    items_of : items keys_of ≡ fin.keys K
    items_of =
        ap (map (λ e. e.0)) (entries-from_sorted (slice_cmp nat_cmp) (bare (fin.entries K))
        (subst T (sym (sorted_bare (fin.entries K))) (entries_sorted K)))
        ∙ keys_bare (fin.entries K)

-- ---- the names of the shards together

in_either : (v w : Option Value) → is_some (or_else v w) ≡ (is_some w || is_some v)
in_either None None = refl
in_either None (Some w) = refl
in_either (Some v) None = refl
in_either (Some v) (Some w) = refl

in_pairs : (pairs : List (Bytes × Value)) (K : Keyspace) (key : Bytes) →
    contains_key (with_pairs pairs K) key ≡ (contains_key K key || list_any (tied key) (map (λ e. e.0) pairs))
in_pairs pairs K key =
    ap is_some (held_with_pairs pairs K key)
    ∙ in_either (find (slice_cmp nat_cmp) key pairs) (held K key)
    ∙ ap (λ b. contains_key K key || b) (is_some-find (slice_cmp nat_cmp) key pairs)

module _ (shards : ℕ) (parts : ℕ → Part) (names : ℕ → List Bytes) where
  in_joined : (n : ℕ) → ((s : ℕ) → s < n → names s ≡ fin.keys (own_keys shards s (parts s).visible)) → (key : Bytes) →
      contains (names_of names n) key ≡ contains_key (joined_to shards parts n) key
  in_joined zero told key = ap is_some (get-empty (slice_cmp nat_cmp) key) ∙ sym (ap is_some (get-empty (slice_cmp nat_cmp) key))
  in_joined (suc t) told key =
      in_with_all (names t) (names_of names t) key
      ∙ ap (λ b. b || list_any (tied key) (names t)) (in_joined t (λ s lt. told s (omega (arith, lt))) key)
      ∙ ap (λ keys. contains_key (joined_to shards parts t) key || list_any (tied key) keys) (told t (omega arith))
      ∙ sym (in_pairs (fin.entries (own_keys shards t (parts t).visible)) (joined_to shards parts t) key)

  -- where the first n shards told the names of their keys, these are together all names, in byte order
  pub names_joined : (n : ℕ) → ((s : ℕ) → s < n → names s ≡ fin.keys (own_keys shards s (parts s).visible)) →
      items (names_of names n) ≡ fin.keys (joined_to shards parts n)
  names_joined n told = same_keys (names_of names n) (joined_to shards parts n) (in_joined n told)
