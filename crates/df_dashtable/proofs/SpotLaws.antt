-- What stands at a spot.
use Rattle.std.proofs.Common.{◌≡◌, ℕ, zero, suc, ◌<◌, List, [], ◌∷◌, length, get_or, map, Bool, true, false, cond, Some, None, refl, ap, sym, subst, ◌∙◌, arith, inl, inr}
use Rattle.std.specs.List.{flat_map, filter}
use Rattle.std.proofs.lemmas.Bool.{cases_lt}
use Rattle.df_model.specs.Values.{Bytes}
use Rattle.df_segment.specs.declared.entry.Entry.{Entry}
use Rattle.df_segment.specs.Entries.{Slot, has_key, found, entry_of, slot_of}
use Rattle.df_segment.specs.Buckets.{Segment, entries_of, bucket_at}
use Rattle.df_segment.proofs.ListLaws.{same_item}
use Rattle.df_segment.proofs.BucketLaws.{item_at}
use Rattle.df_segment.proofs.SoundLaws.{same_key}
use Rattle.df_dashtable.specs.declared.table.Spot.{Spot}
use Rattle.df_dashtable.specs.Tables.{Table, IsTable, IsFresh, IsNewer, IsSpot, IsSpotIn, StandsAt, HasAt, slot_in, slot_at, segment_at, entries, shown_value}
use Rattle.df_dashtable.proofs.StepLaws.{found_at}

-- what a map has at a place
pub mapped_at : {X Y : Type 0} (f : X → Y) (xs : List X) (i : ℕ) (d : X) (e : Y) → i < length xs → get_or (map f xs) i e ≡ f (get_or xs i d)
mapped_at f [] i d e w = absurd (omega arith)
mapped_at f (x ∷ xs) zero d e w = refl
mapped_at f (x ∷ xs) (suc i) d e w = mapped_at f xs i d e (omega arith)

passes_step : {X : Type 0} (p : X → Bool) (x : X) (xs : List X) (t : Bool) → p x ≡ t → filter p (x ∷ xs) ≡ [] → (p x ≡ false) × (filter p xs ≡ [])
passes_step p x xs true e h = absurd (let f : x ∷ filter p xs ≡ [] = rw e at h in cc)
passes_step p x xs false e h = (e, rw e at h)

-- where a filter keeps nothing, nothing passes
pub passes_none : {X : Type 0} (p : X → Bool) (xs : List X) → filter p xs ≡ [] → (k : ℕ) (d : X) → k < length xs → p (get_or xs k d) ≡ false
passes_none p [] h k d w = absurd (omega arith)
passes_none p (x ∷ xs) h zero d w = (passes_step p x xs (p x) refl h).0
passes_none p (x ∷ xs) h (suc k) d w = passes_none p xs (passes_step p x xs (p x) refl h).1 k d (omega arith)

module _ {V : Type 0} where
  abbrev row : List (Segment V) → Spot → List (Slot V)
  row ss at = (bucket_at (segment_at ss at.segment).buckets at.place.bucket).entries

  -- the entry there, for any default
  pub item_of : (ss : List (Segment V)) (at : Spot) → IsSpotIn ss at → (x : Slot V) × ((d : Slot V) → x ≡ slot_in ss at d)
  item_of ss at spot =
      let item = item_at (row ss at) at.place.slot spot.1.1 in
      (item.0, (λ d. item.1 ∙ same_item (row ss at) at.place.slot item.0 d spot.1.1))

  -- a staged entry's bucket isn't older
  pub fresh_newer : (t : Table V) (at : Spot) → IsFresh t → IsSpot t at → ((d : Slot V) → (slot_at t at d).staged ≡ true) → IsNewer t at.segment at.place.bucket
  fresh_newer t at fresh spot staged =
      elim (cases_lt (bucket_at (segment_at t.segments at.segment).buckets at.place.bucket).version t.version) as (λ _. IsNewer t at.segment at.place.bucket) [
        | inl older ↦
            let none = fresh at.segment at.place.bucket spot.0 spot.1.0 older in
            let item = item_of t.segments at spot in
            let off = passes_none (λ (x : Slot V). x.staged) (row t.segments at) none at.place.slot item.0 spot.1.1 in
            let on = staged item.0 in
            absurd (cc)
        | inr newer ↦ newer
      ]

  -- what is seen of a key whose entry is at this spot
  pub hidden_at : (t : Table V) (at : Spot) (key : Bytes) → IsSpot t at → HasAt t key at → ((d : Slot V) → (slot_at t at d).staged ≡ true)
      → None ≡ shown_value (found key (entries t))
  hidden_at t at key spot has on =
      let item = item_of t.segments at spot in
      sym (ap shown_value (has item.0) ∙ ap (λ (b : Bool). cond b None (Some (slot_at t at item.0).value)) (on item.0))

  pub shown_at : (t : Table V) (at : Spot) (key : Bytes) → IsSpot t at → HasAt t key at → ((d : Slot V) → (slot_at t at d).staged ≡ false)
      → (e : Entry V) → ((d : Slot V) → e ≡ entry_of (slot_at t at d)) → Some e.value ≡ shown_value (found key (entries t))
  shown_at t at key spot has off e is =
      let item = item_of t.segments at spot in
      ap (λ (x : Entry V). Some x.value) (is item.0)
      ∙ sym (ap shown_value (has item.0) ∙ ap (λ (b : Bool). cond b None (Some (slot_at t at item.0).value)) (off item.0))

  pub valued_at : (t : Table V) (at : Spot) (key : Bytes) → IsSpot t at → HasAt t key at → ((d : Slot V) → (slot_at t at d).staged ≡ false)
      → (value : V) → ((d : Slot V) → (slot_at t at d).value ≡ value) → Some value ≡ shown_value (found key (entries t))
  valued_at t at key spot has off value is =
      let item = item_of t.segments at spot in
      ap (λ (x : V). Some x) (sym (is item.0))
      ∙ sym (ap shown_value (has item.0) ∙ ap (λ (b : Bool). cond b None (Some (slot_at t at item.0).value)) (off item.0))

  pub visible_was : (t : Table V) (at : Spot) (key : Bytes) → IsSpot t at → HasAt t key at → ((d : Slot V) → (slot_at t at d).staged ≡ false)
      → (e : Entry V) → ((d : Slot V) → e ≡ entry_of (slot_at t at d)) → found key (entries t) ≡ slot_of false e ∷ []
  visible_was t at key spot has off e is =
      let item = item_of t.segments at spot in
      has item.0
      ∙ ap (λ (b : Bool). slot_of b (entry_of (slot_at t at item.0)) ∷ []) (off item.0)
      ∙ ap (λ (x : Entry V). slot_of false x ∷ []) (sym (is item.0))

  pub entry_was : (t : Table V) (at : Spot) (key : Bytes) → HasAt t key at → (x : Entry V) → ((d : Slot V) → x ≡ entry_of (slot_at t at d))
      → (e : Slot V) → found key (entries t) ≡ e ∷ [] → x ≡ entry_of e
  entry_was t at key has x is e was =
      is e ∙ ap entry_of (ap (λ (l : List (Slot V)). get_or l 0 e) (sym (has e) ∙ was))

  -- the key of what stands at a key's spot
  pub key_at : (t : Table V) (at : Spot) (key : Bytes) → StandsAt t key at → (e : Entry V) → ((d : Slot V) → e ≡ entry_of (slot_at t at d)) → e.key ≡ key
  key_at t at key stands e is =
      let item = item_of t.segments at (stands.0, (stands.1.0, stands.1.1.0)) in
      ap (λ (x : Entry V). x.key) (is item.0) ∙ same_key (slot_at t at item.0).key key (stands.1.1.1 item.0)

module _ {V : Type 0} (version depth : ℕ) (directory : List ℕ) (ss : List (Segment V)) (table : IsTable version depth directory ss) (at : Spot) (spot : IsSpotIn ss at) where
  -- it is all that its key has
  pub found_key : (key : Bytes) (d : Slot V) → key ≡ (slot_in ss at d).key → found key (flat_map entries_of ss) ≡ slot_in ss at d ∷ []
  found_key key d is =
      let item = item_of ss at spot in
      let one : found item.0.key (flat_map entries_of ss) ≡ item.0 ∷ [] =
      found_at version depth directory ss table at.segment at.place.bucket at.place.slot item.0 spot.0 spot.1.0 spot.1.1 (item.1 item.0) in
      let own : item.0.key ≡ key = ap (λ (x : Slot V). x.key) (item.1 d) ∙ sym is in
      subst (λ (k : Bytes). found k (flat_map entries_of ss) ≡ slot_in ss at d ∷ []) own (one ∙ ap (λ (x : Slot V). x ∷ []) (item.1 d))

  pub has_at : (key : Bytes) → ((d : Slot V) → has_key key (slot_in ss at d) ≡ true) → (d : Slot V) → found key (flat_map entries_of ss) ≡ slot_in ss at d ∷ []
  has_at key has d = found_key key d (sym (same_key (slot_in ss at d).key key (has d)))
