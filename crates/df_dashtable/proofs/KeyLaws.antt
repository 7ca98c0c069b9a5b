-- A key and what waits in the older buckets.
use Rattle.std.proofs.Common.{◌≡◌, ℕ, zero, suc, ◌<◌, ◌≤◌, List, [], ◌∷◌, length, get_or, Bool, true, false, cond, Some, None, refl, ap, sym, subst, ◌∙◌, arith, inl, inr}
use Rattle.std.specs.List.{flat_map, filter_map, cons_option}
use Rattle.std.specs.Str.{bytes_eq}
use Rattle.std.specs.Prelude.{slice_set}
use Rattle.std.proofs.lemmas.Bool.{cases_lt}
use Rattle.df_model.specs.Values.{Bytes}
use Rattle.df_segment.specs.Entries.{Slot, has_key, found, shown}
use Rattle.df_segment.specs.Buckets.{Bucket, Segment, entries_of, bucket_at, no_bucket, put_bucket, without, Edits}
use Rattle.df_segment.proofs.ListLaws.{filter_flat_map, flat_map_empty, empty_of}
use Rattle.df_segment.proofs.ChangeLaws.{remove_changes}
use Rattle.df_segment.proofs.SoundLaws.{same_key}
use Rattle.df_dashtable.specs.declared.table.Spot.{Spot}
use Rattle.df_dashtable.specs.Visible.{under, is_under, visible_of, older_in, older_entries}
use Rattle.df_dashtable.specs.Tables.{Table, IsTable, IsNewer, IsAllNewer, IsSpotIn, Puts, StandsAt, HasAt, slot_in, slot_at, segment_at, no_segment, entries, older}
use Rattle.df_dashtable.proofs.CutLaws.{older_yes, none_older}
use Rattle.df_dashtable.proofs.OnceLaws.{key_once, older_found}
use Rattle.df_dashtable.proofs.TouchLaws.{edited_changes, edited_older}
use Rattle.df_dashtable.proofs.PutLaws.{gone_puts, own_equal}
use Rattle.df_dashtable.proofs.TableLaws.{part_none}
use Rattle.df_dashtable.proofs.SpotLaws.{item_of}

module _ {V : Type 0} where
  none_step : (key : Bytes) (e : Slot V) (es : List (Slot V)) (t s : Bool) → has_key key e ≡ t → e.staged ≡ s
      → under key (filter_map visible_of (e ∷ es)) ≡ [] → (t ≡ true → e.staged ≡ true) × (under key (filter_map visible_of es) ≡ [])
  none_step key e es t true has is none =
      ((λ _. is), ap (λ (b : Bool). under key (cons_option (cond b None (Some (e.key, e.value))) (filter_map visible_of es))) (sym is) ∙ none)
  none_step key e es true false has is none =
      absurd (let f : under key ((e.key, e.value) ∷ filter_map visible_of es) ≡ [] = ap (λ (b : Bool). under key (cons_option (cond b None (Some (e.key, e.value))) (filter_map visible_of es))) (sym is) ∙ none in
      let g : (e.key, e.value) ∷ under key (filter_map visible_of es) ≡ [] = rw has at f in cc)
  none_step key e es false false has is none =
      let f : under key ((e.key, e.value) ∷ filter_map visible_of es) ≡ [] = ap (λ (b : Bool). under key (cons_option (cond b None (Some (e.key, e.value))) (filter_map visible_of es))) (sym is) ∙ none in
      ((λ h. absurd (cc)), rw has at f)

  -- where a key has no visible entry, what it has is staged
  none_shown : (key : Bytes) (es : List (Slot V)) → under key (filter_map visible_of es) ≡ [] → (i : ℕ) (d : Slot V) → i < length es
      → has_key key (get_or es i d) ≡ true → (get_or es i d).staged ≡ true
  none_shown key [] none i d w has = absurd (omega arith)
  none_shown key (e ∷ es) none zero d w has = (none_step key e es (has_key key e) e.staged refl refl none).0 has
  none_shown key (e ∷ es) none (suc i) d w has = none_shown key es (none_step key e es (has_key key e) e.staged refl refl none).1 i d (omega arith) has

  -- the bucket of a visible key that isn't among the older entries isn't older
  pub touched_newer : (t : Table V) (key : Bytes) (at : Spot) → StandsAt t key at → under key (older t) ≡ []
      → ((d : Slot V) → (slot_at t at d).staged ≡ false) → IsNewer t at.segment at.place.bucket
  touched_newer t key at stands none shown_ =
      let seg = segment_at t.segments at.segment in
      let bucket = bucket_at seg.buckets at.place.bucket in
      elim (cases_lt bucket.version t.version) as (λ _. IsNewer t at.segment at.place.bucket) [
        | inl old ↦
            let one : under key (older_entries t.version seg.buckets) ≡ [] =
            part_none (λ (x : Segment V). under key (older_entries t.version x.buckets)) no_segment t.segments at.segment stands.0
            (sym (filter_flat_map (is_under key) (λ (x : Segment V). older_entries t.version x.buckets) t.segments) ∙ none) in
            let two : under key (older_in t.version bucket) ≡ [] =
            part_none (λ (x : Bucket V). under key (older_in t.version x)) no_bucket seg.buckets at.place.bucket stands.1.0
            (sym (filter_flat_map (is_under key) (older_in t.version) seg.buckets) ∙ one) in
            let three : under key (filter_map visible_of bucket.entries) ≡ [] = ap (under key) (sym (older_yes t.version bucket old)) ∙ two in
            let item = item_of t.segments at (stands.0, (stands.1.0, stands.1.1.0)) in
            let on = none_shown key bucket.entries three at.place.slot item.0 stands.1.1.0 (stands.1.1.1 item.0) in
            let off = shown_ item.0 in
            absurd (cc)
        | inr newer ↦ newer
      ]

  -- what a change of the entry at a key's spot is to the key
  pub key_shown : (t u : Table V) (at : Spot) (key : Bytes) (e : Slot V) → StandsAt t key at → HasAt t key at → found key (entries t) ≡ e ∷ []
      → ((d : Slot V) → Puts (slot_at t at d).key (shown (slot_at t at d) ∷ []) t u) → Puts key (shown e ∷ []) t u
  key_shown t u at key e stands has was puts k =
      let own : (slot_at t at e).key ≡ key = same_key (slot_at t at e).key key (stands.1.1.1 e) in
      let same : slot_at t at e ≡ e = ap (λ (l : List (Slot V)). get_or l 0 e) (sym (has e) ∙ was) in
      subst (λ (z : Slot V). found k (entries u) ≡ cond (bytes_eq key k) (shown z ∷ []) (found k (entries t))) same
      (subst (λ (o : Bytes). found k (entries u) ≡ cond (bytes_eq o k) (shown (slot_at t at e) ∷ []) (found k (entries t))) own (puts e k))

  pub key_gone : (t u : Table V) (key own : Bytes) → own ≡ key → Puts own [] t u → Puts key [] t u
  key_gone t u key own is puts = subst (λ (k : Bytes). Puts k [] t u) is puts

  -- where no bucket is older nothing is
  pub all_newer_none : (t : Table V) → IsAllNewer t → older t ≡ []
  all_newer_none t all =
      flat_map_empty (λ (s : Segment V). older_entries t.version s.buckets) no_segment t.segments
      (λ s w. none_older t.version no_bucket (segment_at t.segments s).buckets (λ b i. all s b w i))

module _ {V : Type 0} (version depth : ℕ) (directory : List ℕ) (ss : List (Segment V)) (table : IsTable version depth directory ss) where
  -- a key that isn't there isn't older
  pub absent_older : (v : ℕ) (key : Bytes) → found key (flat_map entries_of ss) ≡ [] → under key (flat_map (λ (k : Segment V). older_entries v k.buckets) ss) ≡ []
  absent_older v key none = empty_of (under key (flat_map (λ (k : Segment V). older_entries v k.buckets) ss))
      (let f = older_found v key ss in let n = ap length none in omega arith)

  -- the key of a bucket that isn't older isn't either
  pub newer_none : (key : Bytes) (at : Spot) (spot : IsSpotIn ss at) → ((d : Slot V) → has_key key (slot_in ss at d) ≡ true)
      → version ≤ (bucket_at (segment_at ss at.segment).buckets at.place.bucket).version → under key (flat_map (λ (k : Segment V). older_entries version k.buckets) ss) ≡ []
  newer_none key at spot has newer =
      let seg = segment_at ss at.segment in
      let es = (bucket_at seg.buckets at.place.bucket).entries in
      let gone : Bucket V = without at.place.slot (bucket_at seg.buckets at.place.bucket) in
      let item = item_of ss at spot in
      let x : Segment V = put_bucket seg at.place.bucket gone in
      let rest : Edits seg x at.place.bucket (item.0 ∷ []) [] =
      record { bucket = gone; new_is = refl; version = refl; change = remove_changes es at.place.slot item.0 spot.1.1 (item.1 item.0) } in
      let same = edited_older version ss at.segment at.place.bucket x (item.0 ∷ []) [] spot.0 spot.1.0 rest newer in
      let own : item.0.key ≡ key = same_key item.0.key key (ap (has_key key) (item.1 item.0) ∙ has item.0) in
      let none : found key (flat_map entries_of (slice_set ss at.segment x)) ≡ [] =
      gone_puts (flat_map entries_of ss) (flat_map entries_of (slice_set ss at.segment x)) item.0 key
      (edited_changes ss at.segment at.place.bucket x (item.0 ∷ []) [] spot.0 spot.1.0 rest)
      (key_once version depth directory ss table item.0.key) own key
      ∙ ap (λ (b : Bool). cond b [] (found key (flat_map entries_of ss))) (own_equal key) in
      empty_of (under key (flat_map (λ (k : Segment V). older_entries version k.buckets) ss))
      (let f = older_found version key (slice_set ss at.segment x) in let n = ap length none in let s = ap (λ (zs : List (Bytes × V)). length (under key zs)) same in omega arith)
