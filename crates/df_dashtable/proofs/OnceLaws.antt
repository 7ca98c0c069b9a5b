-- Each key stands once at most, in the table and among the older entries.
use Rattle.std.proofs.Common.{◌≡◌, ◌≢◌, ℕ, zero, suc, ◌<◌, ◌≤◌, List, [], ◌∷◌, ◌++◌, length, get_or, Bool, true, false, cond, Option, Some, None, refl, ap, sym, subst, ◌∙◌, arith, length-append}
use Rattle.std.specs.List.{flat_map, filter_map, cons_option}
use Rattle.std.specs.Prelude.{slice_index}
use Rattle.std.proofs.lemmas.List.{append-nil}
use Rattle.std.proofs.lemmas.List.Elements.{filter-append, filter_map-append}
use Rattle.df_model.specs.Values.{Bytes}
use Rattle.df_model.specs.Hash.{fnv64}
use Rattle.df_segment.specs.Entries.{Slot, has_key, found}
use Rattle.df_segment.specs.Buckets.{Bucket, Segment, entries_of, entries_in}
use Rattle.df_segment.proofs.ListLaws.{flat_map_empty, filter_flat_map}
use Rattle.df_dashtable.specs.Visible.{under, is_under, visible_of, visible_in, visible_entries, older_entries}
use Rattle.df_dashtable.specs.Tables.{IsTable, segment_at, no_segment, directory_place}
use Rattle.df_dashtable.proofs.HashLaws.{hash_fits, place_within}
use Rattle.df_dashtable.proofs.CutLaws.{older_once}

-- where one part alone isn't empty, the flat map is that part
pub only_part : {X A : Type 0} (f : X → List A) (d : X) (xs : List X) (own : ℕ) → own < length xs
    → ((i : ℕ) → i < length xs → i ≢ own → f (get_or xs i d) ≡ []) → flat_map f xs ≡ f (get_or xs own d)
only_part f d [] own w h = absurd (omega arith)
only_part f d (x ∷ xs) zero w h =
    ap (λ ys. f x ++ ys) (flat_map_empty f d xs (λ k b. h (suc k) (omega arith) (omega arith))) ∙ append-nil (f x)
only_part f d (x ∷ xs) (suc own) w h =
    ap (λ ys. ys ++ flat_map f xs) (h 0 (omega arith) (omega arith))
    ∙ only_part f d xs own (omega arith) (λ k b n. h (suc k) (omega arith) (omega arith))

module _ {V : Type 0} (version depth : ℕ) (directory : List ℕ) (ss : List (Segment V)) (table : IsTable version depth directory ss) (key : Bytes) where
  abbrev own : ℕ
  own = slice_index directory (directory_place (fnv64 key) depth)

  pub own_within : own < length ss
  own_within = table.named (directory_place (fnv64 key) depth) (rw table.whole (place_within (fnv64 key) depth (hash_fits key) table.deep))

  -- what a table has of a key is what the key's segment has
  pub found_own : found key (flat_map entries_of ss) ≡ found key (entries_of (segment_at ss own))
  found_own = filter_flat_map (has_key key) entries_of ss
      ∙ only_part (λ (s : Segment V). found key (entries_of s)) no_segment ss own own_within (λ s b n. table.homed s key b n)

  pub key_once : length (found key (flat_map entries_of ss)) ≤ 1
  key_once = rw found_own (table.once own own_within key)

module _ {V : Type 0} where
  pair_under : (key : Bytes) (e : Slot V) (pairs : List (Bytes × V)) (es : List (Slot V)) (t : Bool) → has_key key e ≡ t
      → length (under key pairs) ≤ length (found key es) → length (under key ((e.key, e.value) ∷ pairs)) ≤ length (found key (e ∷ es))
  pair_under key e pairs es true is h = rw is (omega arith)
  pair_under key e pairs es false is h = rw is h

  skip_under : (key : Bytes) (e : Slot V) (pairs : List (Bytes × V)) (es : List (Slot V)) (t : Bool) → has_key key e ≡ t
      → length (under key pairs) ≤ length (found key es) → length (under key pairs) ≤ length (found key (e ∷ es))
  skip_under key e pairs es true is h = rw is (omega arith)
  skip_under key e pairs es false is h = rw is h

  under_next : (key : Bytes) (e : Slot V) (es : List (Slot V)) (s : Bool) → e.staged ≡ s → length (under key (filter_map visible_of es)) ≤ length (found key es)
      → length (under key (filter_map visible_of (e ∷ es))) ≤ length (found key (e ∷ es))
  under_next key e es true is h =
      subst (λ (o : Option (Bytes × V)). length (under key (cons_option o (filter_map visible_of es))) ≤ length (found key (e ∷ es)))
      (ap (λ (b : Bool). cond b None (Some (e.key, e.value))) (sym is))
      (skip_under key e (filter_map visible_of es) es (has_key key e) refl h)
  under_next key e es false is h =
      subst (λ (o : Option (Bytes × V)). length (under key (cons_option o (filter_map visible_of es))) ≤ length (found key (e ∷ es)))
      (ap (λ (b : Bool). cond b None (Some (e.key, e.value))) (sym is))
      (pair_under key e (filter_map visible_of es) es (has_key key e) refl h)

  pub under_found : (key : Bytes) (es : List (Slot V)) → length (under key (filter_map visible_of es)) ≤ length (found key es)
  under_found key [] = omega arith
  under_found key (e ∷ es) = under_next key e es e.staged refl (under_found key es)

  pub visible_is : (bs : List (Bucket V)) → visible_entries bs ≡ filter_map visible_of (entries_in bs)
  visible_is [] = refl
  visible_is (b ∷ bs) = ap (λ xs. visible_in b ++ xs) (visible_is bs) ∙ sym (filter_map-append visible_of b.entries (entries_in bs))

  pub older_found : (version : ℕ) (key : Bytes) (ss : List (Segment V))
      → length (under key (flat_map (λ s. older_entries version s.buckets) ss)) ≤ length (found key (flat_map entries_of ss))
  older_found version key [] = omega arith
  older_found version key (s ∷ ss) =
      let more = older_found version key ss in
      let a = ap length (filter-append (is_under key) (older_entries version s.buckets) (flat_map (λ s. older_entries version s.buckets) ss)) ∙ length-append (under key (older_entries version s.buckets)) (under key (flat_map (λ s. older_entries version s.buckets) ss)) in
      let b = ap length (filter-append (has_key key) (entries_of s) (flat_map entries_of ss)) ∙ length-append (found key (entries_of s)) (found key (flat_map entries_of ss)) in
      let c = older_once version key s.buckets in
      let d : length (under key (visible_entries s.buckets)) ≤ length (found key (entries_in s.buckets)) = rw (visible_is s.buckets) (under_found key (entries_in s.buckets)) in
      omega arith
