-- How many entries are visible, and how many staged.
use Rattle.std.proofs.Common.{◌≡◌, ℕ, suc, ◌+◌, ◌-◌, ◌<◌, ◌≤◌, List, [], ◌∷◌, ◌++◌, map, length, take, drop, Bool, true, false, cond, not, Some, None, refl, ap, sym, subst, ◌∙◌, arith, append-nil, length-append}
use Rattle.std.specs.List.{flat_map, filter, filter_map, cons_option}
use Rattle.std.specs.Prelude.{slice_set}
use Rattle.std.proofs.lemmas.List.Concat.{flat_map-append}
use Rattle.std.proofs.lemmas.List.Elements.{filter-append}
use Rattle.df_segment.specs.Entries.{Slot, goes, shown, with_value}
use Rattle.df_segment.specs.Changes.{Changes}
use Rattle.df_segment.specs.Buckets.{Segment, entries_of, bucket_at, put_bucket, marked, stay_half, go_half, stays_in, goes_in}
use Rattle.df_segment.proofs.ListLaws.{flat_map_parted, flat_map_set, flat_map_same}
use Rattle.df_segment.proofs.ChangeLaws.{length_change, filter_parts}
use Rattle.df_segment.proofs.SoundLaws.{marked_entries}
use Rattle.df_segment.proofs.SplitLaws.{stay_entries, go_entries}
use Rattle.df_dashtable.specs.declared.table.Spot.{Spot}
use Rattle.df_dashtable.specs.Visible.{visible_of, visible_entries}
use Rattle.df_dashtable.specs.Tables.{segment_at, no_segment, staged_in, shown_in, stashed, cleared, IsCounted, IsSpotIn, EditsIn, slot_in}
use Rattle.df_dashtable.proofs.TouchLaws.{edited_changes}
use Rattle.df_dashtable.proofs.StepLaws.{stashed_entries}
use Rattle.df_dashtable.proofs.SpotLaws.{item_of}
use Rattle.df_dashtable.proofs.HoldsLaws.{all_visible}
use Rattle.df_dashtable.proofs.ClearLaws.{cleared_entries}

halves_step : {X : Type 0} (p q : X → Bool) (x : X) (xs : List X) (s t : Bool) → q x ≡ s → p x ≡ t
    → length (filter p (filter (λ y. not (q y)) xs)) + length (filter p (filter q xs)) ≡ length (filter p xs)
    → length (filter p (filter (λ y. not (q y)) (x ∷ xs))) + length (filter p (filter q (x ∷ xs))) ≡ length (filter p (x ∷ xs))
halves_step p q x xs true true s t h = rw s (rw t (omega arith))
halves_step p q x xs true false s t h = rw s (rw t h)
halves_step p q x xs false true s t h = rw s (rw t (omega arith))
halves_step p q x xs false false s t h = rw s (rw t h)

-- what a filter keeps of the two parts of another
halves_count : {X : Type 0} (p q : X → Bool) (xs : List X) → length (filter p (filter (λ y. not (q y)) xs)) + length (filter p (filter q xs)) ≡ length (filter p xs)
halves_count p q [] = refl
halves_count p q (x ∷ xs) = halves_step p q x xs (q x) (p x) refl refl (halves_count p q xs)

module _ {V : Type 0} where
  visible_step : (e : Slot V) (es : List (Slot V)) (t : Bool) → e.staged ≡ t → length (filter_map visible_of es) ≡ length (shown_in es)
      → length (filter_map visible_of (e ∷ es)) ≡ length (shown_in (e ∷ es))
  visible_step e es true is h =
      ap (λ (b : Bool). length (cons_option (cond b None (Some (e.key, e.value))) (filter_map visible_of es))) is ∙ h
      ∙ sym (ap (λ (b : Bool). length (cond (not b) (e ∷ shown_in es) (shown_in es))) is)
  visible_step e es false is h =
      ap (λ (b : Bool). length (cons_option (cond b None (Some (e.key, e.value))) (filter_map visible_of es))) is ∙ ap suc h
      ∙ sym (ap (λ (b : Bool). length (cond (not b) (e ∷ shown_in es) (shown_in es))) is)

  visible_length : (es : List (Slot V)) → length (filter_map visible_of es) ≡ length (shown_in es)
  visible_length [] = refl
  visible_length (e ∷ es) = visible_step e es e.staged refl (visible_length es)

  -- the count of the visible entries
  pub len_is : (len staged : ℕ) (ss : List (Segment V)) → IsCounted len staged ss → len ≡ length (flat_map (λ (s : Segment V). visible_entries s.buckets) ss)
  len_is len staged ss c = c.seen ∙ sym (ap length (all_visible ss) ∙ visible_length (flat_map entries_of ss))

  -- where the entries are the same
  pub same_counted : (len staged : ℕ) (ss tt : List (Segment V)) → flat_map entries_of tt ≡ flat_map entries_of ss → IsCounted len staged ss → IsCounted len staged tt
  same_counted len staged ss tt same c = record {
    seen = c.seen ∙ ap (λ (es : List (Slot V)). length (shown_in es)) (sym same);
    waits = c.waits ∙ ap (λ (es : List (Slot V)). length (staged_in es)) (sym same);
    fits = c.fits;
  }

  pub marked_counted : (len staged : ℕ) (ss : List (Segment V)) (s b version : ℕ) → s < length ss → b < length (segment_at ss s).buckets → IsCounted len staged ss
      → IsCounted len staged (slice_set ss s (put_bucket (segment_at ss s) b (marked version (bucket_at (segment_at ss s).buckets b))))
  marked_counted len staged ss s b version w i c =
      same_counted len staged ss _ (flat_map_same entries_of no_segment ss s (put_bucket (segment_at ss s) b (marked version (bucket_at (segment_at ss s).buckets b))) w
      (marked_entries (segment_at ss s).buckets b version i)) c

  pub stashed_counted : (len staged : ℕ) (ss : List (Segment V)) (s version : ℕ) → s < length ss → IsCounted len staged ss → IsCounted len staged (slice_set ss s (stashed version (segment_at ss s)))
  stashed_counted len staged ss s version w c =
      same_counted len staged ss _ (flat_map_same entries_of no_segment ss s (stashed version (segment_at ss s)) w (stashed_entries version (segment_at ss s))) c

  -- an edit, by how many of each kind go and come
  pub edited_counted : (len staged len' staged' : ℕ) (ss tt : List (Segment V)) (out into : List (Slot V)) → IsCounted len staged ss
      → Changes (flat_map entries_of ss) (flat_map entries_of tt) out into
      → len' + length (shown_in out) ≡ len + length (shown_in into) → staged' + length (staged_in out) ≡ staged + length (staged_in into) → len' + staged' ≤ 18446744073709551615
      → IsCounted len' staged' tt
  edited_counted len staged len' staged' ss tt out into c change a b fits =
      let p = length_change (λ (e : Slot V). not e.staged) change in
      let q = length_change (λ (e : Slot V). e.staged) change in
      let s = c.seen in
      let w = c.waits in
      record { seen = omega arith; waits = omega arith; fits = fits }

  one_kind : (e : Slot V) (t : Bool) → e.staged ≡ t → (length (shown_in (e ∷ [])) ≡ cond t 0 1) × (length (staged_in (e ∷ [])) ≡ cond t 1 0)
  one_kind e true is = (ap (λ (b : Bool). length (cond (not b) (e ∷ []) [])) is, ap (λ (b : Bool). length (cond b (e ∷ []) [])) is)
  one_kind e false is = (ap (λ (b : Bool). length (cond (not b) (e ∷ []) [])) is, ap (λ (b : Bool). length (cond b (e ∷ []) [])) is)

  pub one_staged : (e : Slot V) → e.staged ≡ true → (length (shown_in (e ∷ [])) ≡ 0) × (length (staged_in (e ∷ [])) ≡ 1)
  one_staged e is = one_kind e true is

  pub one_shown : (e : Slot V) → e.staged ≡ false → (length (shown_in (e ∷ [])) ≡ 1) × (length (staged_in (e ∷ [])) ≡ 0)
  one_shown e is = one_kind e false is

  module _ (len staged : ℕ) (ss tt : List (Segment V)) (e : Slot V) (c : IsCounted len staged ss) where
    -- a staged entry comes
    pub staged_counted : e.staged ≡ true → Changes (flat_map entries_of ss) (flat_map entries_of tt) [] (e ∷ []) → len + staged < 18446744073709551615 → IsCounted len (staged + 1) tt
    staged_counted on change room =
        let o = one_staged e on in let a = o.0 in let b = o.1 in
        edited_counted len staged len (staged + 1) ss tt [] (e ∷ []) c change (omega arith) (omega arith) (omega arith)

    -- it is made visible
    pub shown_counted : e.staged ≡ true → Changes (flat_map entries_of ss) (flat_map entries_of tt) (e ∷ []) (shown e ∷ []) → (1 ≤ staged) × IsCounted (len + 1) (staged - 1) tt
    shown_counted on change =
        let o = one_staged e on in let a = o.0 in let b = o.1 in
        let p = one_shown (shown e) refl in let d = p.0 in let f = p.1 in
        let q = length_change (λ (x : Slot V). x.staged) change in let w = c.waits in let fits = c.fits in
        let some : 1 ≤ staged = omega arith in
        (some, edited_counted len staged (len + 1) (staged - 1) ss tt (e ∷ []) (shown e ∷ []) c change (omega arith) (omega arith) (omega arith))

    -- a staged entry goes
    pub unstaged_counted : e.staged ≡ true → Changes (flat_map entries_of ss) (flat_map entries_of tt) (e ∷ []) [] → (1 ≤ staged) × IsCounted len (staged - 1) tt
    unstaged_counted on change =
        let o = one_staged e on in let a = o.0 in let b = o.1 in
        let q = length_change (λ (x : Slot V). x.staged) change in let w = c.waits in let fits = c.fits in
        let some : 1 ≤ staged = omega arith in
        (some, edited_counted len staged len (staged - 1) ss tt (e ∷ []) [] c change (omega arith) (omega arith) (omega arith))

    -- a visible entry goes
    pub removed_counted : e.staged ≡ false → Changes (flat_map entries_of ss) (flat_map entries_of tt) (e ∷ []) [] → (1 ≤ len) × IsCounted (len - 1) staged tt
    removed_counted off change =
        let o = one_shown e off in let a = o.0 in let b = o.1 in
        let q = length_change (λ (x : Slot V). not x.staged) change in let w = c.seen in let fits = c.fits in
        let some : 1 ≤ len = omega arith in
        (some, edited_counted len staged (len - 1) staged ss tt (e ∷ []) [] c change (omega arith) (omega arith) (omega arith))

    same_kind : (value : V) (t : Bool) → e.staged ≡ t
        → (length (shown_in (with_value value e ∷ [])) ≡ length (shown_in (e ∷ []))) × (length (staged_in (with_value value e ∷ [])) ≡ length (staged_in (e ∷ [])))
    same_kind value true on =
        let o = one_staged e on in let p = one_staged (with_value value e) on in (p.0 ∙ sym o.0, p.1 ∙ sym o.1)
    same_kind value false off =
        let o = one_shown e off in let p = one_shown (with_value value e) off in (p.0 ∙ sym o.0, p.1 ∙ sym o.1)

    -- a value is written
    pub valued_counted : (value : V) → Changes (flat_map entries_of ss) (flat_map entries_of tt) (e ∷ []) (with_value value e ∷ []) → IsCounted len staged tt
    valued_counted value change =
        let k = same_kind value e.staged refl in let a = k.0 in let b = k.1 in
        edited_counted len staged len staged ss tt (e ∷ []) (with_value value e ∷ []) c change (omega arith) (omega arith) c.fits

  -- a split, each kind by its filter
  split_kind : (p : Slot V → Bool) (ss : List (Segment V)) (s bit : ℕ) → s < length ss
      → length (filter p (flat_map entries_of (slice_set ss s (stay_half bit (segment_at ss s)) ++ go_half bit (segment_at ss s) ∷ []))) ≡ length (filter p (flat_map entries_of ss))
  split_kind p ss s bit w =
      let old = segment_at ss s in
      let left = flat_map entries_of (take s ss) in
      let right = flat_map entries_of (drop (suc s) ss) in
      let was : filter p (flat_map entries_of ss) ≡ filter p left ++ (filter p (entries_of old) ++ filter p right) =
      ap (filter p) (flat_map_parted entries_of no_segment ss s w) ∙ filter_parts p left (entries_of old) right in
      let stays : filter p (flat_map entries_of (slice_set ss s (stay_half bit old))) ≡ filter p left ++ (filter p (stays_in bit (entries_of old)) ++ filter p right) =
      ap (filter p) (flat_map_set entries_of ss s (stay_half bit old) w) ∙ filter_parts p left (entries_of (stay_half bit old)) right
      ∙ ap (λ (zs : List (Slot V)). filter p left ++ (filter p zs ++ filter p right)) (stay_entries bit old.buckets) in
      let gone : filter p (flat_map entries_of (go_half bit old ∷ [])) ≡ filter p (goes_in bit (entries_of old)) =
      ap (filter p) (append-nil (entries_of (go_half bit old)) ∙ go_entries bit old.buckets) in
      let all = ap (filter p) (flat_map-append entries_of (slice_set ss s (stay_half bit old)) (go_half bit old ∷ []))
      ∙ filter-append p (flat_map entries_of (slice_set ss s (stay_half bit old))) (flat_map entries_of (go_half bit old ∷ [])) in
      let h = halves_count p (λ (e : Slot V). goes bit e.key) (entries_of old) in
      let a = ap length all ∙ length-append (filter p (flat_map entries_of (slice_set ss s (stay_half bit old)))) (filter p (flat_map entries_of (go_half bit old ∷ []))) in
      let b = ap length stays in
      let c = length-append (filter p left) (filter p (stays_in bit (entries_of old)) ++ filter p right) in
      let d = length-append (filter p (stays_in bit (entries_of old))) (filter p right) in
      let e = ap length gone in
      let f = ap length was in
      let g = length-append (filter p left) (filter p (entries_of old) ++ filter p right) in
      let i = length-append (filter p (entries_of old)) (filter p right) in
      omega arith

  pub split_counted : (len staged : ℕ) (ss : List (Segment V)) (s bit : ℕ) → s < length ss → IsCounted len staged ss
      → IsCounted len staged (slice_set ss s (stay_half bit (segment_at ss s)) ++ go_half bit (segment_at ss s) ∷ [])
  split_counted len staged ss s bit w c = record {
    seen = c.seen ∙ sym (split_kind (λ (e : Slot V). not e.staged) ss s bit w);
    waits = c.waits ∙ sym (split_kind (λ (e : Slot V). e.staged) ss s bit w);
    fits = c.fits;
  }

  none_step : (e : Slot V) (es : List (Slot V)) (t : Bool) → e.staged ≡ t → length (shown_in (staged_in es)) ≡ 0 → length (shown_in (staged_in (e ∷ es))) ≡ 0
  none_step e es true is h = ap (λ (b : Bool). length (shown_in (cond b (e ∷ staged_in es) (staged_in es)))) is ∙ ap (λ (b : Bool). length (cond (not b) (e ∷ shown_in (staged_in es)) (shown_in (staged_in es)))) is ∙ h
  none_step e es false is h = ap (λ (b : Bool). length (shown_in (cond b (e ∷ staged_in es) (staged_in es)))) is ∙ h

  none_shown : (es : List (Slot V)) → length (shown_in (staged_in es)) ≡ 0
  none_shown [] = refl
  none_shown (e ∷ es) = none_step e es e.staged refl (none_shown es)

  all_step : (e : Slot V) (es : List (Slot V)) (t : Bool) → e.staged ≡ t → length (staged_in (staged_in es)) ≡ length (staged_in es) → length (staged_in (staged_in (e ∷ es))) ≡ length (staged_in (e ∷ es))
  all_step e es true is h = ap (λ (b : Bool). length (staged_in (cond b (e ∷ staged_in es) (staged_in es)))) is ∙ ap (λ (b : Bool). length (cond b (e ∷ staged_in (staged_in es)) (staged_in (staged_in es)))) is ∙ ap suc h
      ∙ sym (ap (λ (b : Bool). length (cond b (e ∷ staged_in es) (staged_in es))) is)
  all_step e es false is h = ap (λ (b : Bool). length (staged_in (cond b (e ∷ staged_in es) (staged_in es)))) is ∙ h
      ∙ sym (ap (λ (b : Bool). length (cond b (e ∷ staged_in es) (staged_in es))) is)

  all_staged : (es : List (Slot V)) → length (staged_in (staged_in es)) ≡ length (staged_in es)
  all_staged [] = refl
  all_staged (e ∷ es) = all_step e es e.staged refl (all_staged es)

  pub cleared_counted : (len staged : ℕ) (ss : List (Segment V)) → IsCounted len staged ss → IsCounted 0 staged (map cleared ss)
  cleared_counted len staged ss c = record {
    seen = sym (ap (λ (es : List (Slot V)). length (shown_in es)) (cleared_entries ss) ∙ none_shown (flat_map entries_of ss));
    waits = c.waits ∙ sym (ap (λ (es : List (Slot V)). length (staged_in es)) (cleared_entries ss) ∙ all_staged (flat_map entries_of ss));
    fits = (let f = c.fits in omega arith);
  }

  pub new_counted : (ss : List (Segment V)) → flat_map entries_of ss ≡ [] → IsCounted 0 0 ss
  new_counted ss none = record {
    seen = sym (ap (λ (es : List (Slot V)). length (shown_in es)) none);
    waits = sym (ap (λ (es : List (Slot V)). length (staged_in es)) none);
    fits = omega arith;
  }

-- the same of the entry at a spot
module _ {V : Type 0} (len staged : ℕ) (ss tt : List (Segment V)) (c : IsCounted len staged ss) (at : Spot) (spot : IsSpotIn ss at) where
  changed : (into : Slot V → List (Slot V)) → ((e : Slot V) → e ≡ slot_in ss at e → EditsIn ss tt at.segment at.place.bucket (e ∷ []) (into e))
      → (e : Slot V) → ((d : Slot V) → e ≡ slot_in ss at d) → Changes (flat_map entries_of ss) (flat_map entries_of tt) (e ∷ []) (into e)
  changed into edits e is =
      let r = edits e (is e) in
      subst (λ (k : List (Segment V)). Changes (flat_map entries_of ss) (flat_map entries_of k) (e ∷ []) (into e)) (sym r.new_is)
      (edited_changes ss at.segment at.place.bucket r.segment (e ∷ []) (into e) spot.0 spot.1.0 r.edits)

  pub removed_at : ((d : Slot V) → (slot_in ss at d).staged ≡ false) → ((e : Slot V) → e ≡ slot_in ss at e → EditsIn ss tt at.segment at.place.bucket (e ∷ []) [])
      → (1 ≤ len) × IsCounted (len - 1) staged tt
  removed_at off edits =
      let item = item_of ss at spot in
      removed_counted len staged ss tt item.0 c (ap (λ (x : Slot V). x.staged) (item.1 item.0) ∙ off item.0) (changed (λ _. []) edits item.0 item.1)

  pub unstaged_at : ((d : Slot V) → (slot_in ss at d).staged ≡ true) → ((e : Slot V) → e ≡ slot_in ss at e → EditsIn ss tt at.segment at.place.bucket (e ∷ []) [])
      → (1 ≤ staged) × IsCounted len (staged - 1) tt
  unstaged_at on edits =
      let item = item_of ss at spot in
      unstaged_counted len staged ss tt item.0 c (ap (λ (x : Slot V). x.staged) (item.1 item.0) ∙ on item.0) (changed (λ _. []) edits item.0 item.1)

  pub applied_at : ((d : Slot V) → (slot_in ss at d).staged ≡ true) → ((e : Slot V) → e ≡ slot_in ss at e → EditsIn ss tt at.segment at.place.bucket (e ∷ []) (shown e ∷ []))
      → (1 ≤ staged) × IsCounted (len + 1) (staged - 1) tt
  applied_at on edits =
      let item = item_of ss at spot in
      shown_counted len staged ss tt item.0 c (ap (λ (x : Slot V). x.staged) (item.1 item.0) ∙ on item.0) (changed (λ e. shown e ∷ []) edits item.0 item.1)
