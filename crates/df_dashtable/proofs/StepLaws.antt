-- Steps of a table that leave what each key has.
use Rattle.std.proofs.Common.{◌≡◌, ◌≢◌, ℕ, zero, suc, ◌<◌, ◌≤◌, List, [], ◌∷◌, ◌++◌, length, get_or, set, Bool, true, false, cond, eqb, refl, ap, sym, subst, ◌∙◌, arith, append-nil, length-append, ◌⊎◌, inl, inr}
use Rattle.std.specs.List.{flat_map, filter}
use Rattle.std.specs.Prelude.{slice_index, slice_set}
use Rattle.std.proofs.lemmas.Bool.{cases_eq, cases_lt, eq-eqb}
use Rattle.std.proofs.lemmas.List.{get_or-set_other, get_or-set_same, length-set, get_or_append_left}
use Rattle.std.proofs.lemmas.List.Concat.{flat_map-append}
use Rattle.std.proofs.Math.Seq.{get_or-append_seam}
use Rattle.df_model.specs.Values.{Bytes}
use Rattle.df_segment.specs.Entries.{Slot, has_key, found, alter, with_value, shown}
use Rattle.df_segment.specs.Changes.{Changes}
use Rattle.df_segment.specs.Buckets.{Bucket, Segment, entries_of, entries_in, bucket_at, no_bucket, put_bucket, marked, without, home_of, after, IsRoom, IsFirst, Edits}
use Rattle.df_segment.proofs.ListLaws.{flat_map_same, empty_of}
use Rattle.df_segment.proofs.BucketLaws.{item_at}
use Rattle.df_segment.proofs.ChangeLaws.{filter_parts, remove_changes, alter_changes, change_in_part, none_after, length_change}
use Rattle.df_segment.proofs.SoundLaws.{part_of, altered_edits}
use Rattle.df_dashtable.specs.Visible.{older_entries}
use Rattle.df_dashtable.specs.Tables.{Table, IsTable, Touches, IsNewer, IsFirstOf, IsCurrent, staged_in, segment_at, no_segment, directory_place, segment_of, mark_at, stashed}
use Rattle.df_dashtable.proofs.CutLaws.{none_older}
use Rattle.df_dashtable.proofs.OnceLaws.{key_once}
use Rattle.df_dashtable.proofs.PutLaws.{was_found}
use Rattle.df_dashtable.proofs.TouchLaws.{marked_same, put_table, edited_changes}

module _ {V : Type 0} where
  pub touches_none : (s : ℕ) (t : Table V) → Touches s t t
  touches_none s t = record { same = λ key. refl; version = refl; depth = refl; directory = refl; long = refl; own_depth = refl; count = λ c. refl; newer = λ c b n. n }

  pub touches_more : (s : ℕ) (t u v : Table V) → Touches s t u → Touches s u v → Touches s t v
  touches_more s t u v a b = record {
    same = λ key. b.same key ∙ a.same key;
    version = b.version ∙ a.version;
    depth = b.depth ∙ a.depth;
    directory = b.directory ∙ a.directory;
    long = b.long ∙ a.long;
    own_depth = b.own_depth ∙ a.own_depth;
    count = λ c. b.count c ∙ a.count c;
    newer = λ c k n. b.newer c k (a.newer c k n);
  }

  module _ (t u : Table V) (s b : ℕ) (within : s < length t.segments) (inside : b < length (segment_at t.segments s).buckets) where
    abbrev bucket : Bucket V
    bucket = marked t.version (bucket_at (segment_at t.segments s).buckets b)

    abbrev touched : Segment V
    touched = put_bucket (segment_at t.segments s) b bucket

    same_segment : segment_at (mark_at t s b).segments s ≡ touched
    same_segment = get_or-set_same t.segments s touched no_segment within

    version_kept : (k : ℕ) → ((k ≡ b) ⊎ (k ≢ b)) → IsNewer t s k → IsNewer (mark_at t s b) s k
    version_kept k (inl e) n = rw same_segment (subst (λ (d : ℕ). t.version ≤ (bucket_at (set (segment_at t.segments s).buckets b bucket) d).version) (sym e)
        (rw (get_or-set_same (segment_at t.segments s).buckets b bucket no_bucket inside) (omega arith)))
    version_kept k (inr o) n = rw (same_segment, get_or-set_other (segment_at t.segments s).buckets b k bucket no_bucket o) n

    count_of : (c : ℕ) → ((c ≡ s) ⊎ (c ≢ s)) → length (segment_at (mark_at t s b).segments c).buckets ≡ length (segment_at t.segments c).buckets
    count_of c (inl e) = subst (λ (k : ℕ). length (segment_at (mark_at t s b).segments k).buckets ≡ length (segment_at t.segments k).buckets) (sym e)
        (ap (λ (k : Segment V). length k.buckets) same_segment ∙ length-set (segment_at t.segments s).buckets b bucket)
    count_of c (inr o) = ap (λ (k : Segment V). length k.buckets) (get_or-set_other t.segments s c touched no_segment o)

    newer_of : (c k : ℕ) → ((c ≡ s) ⊎ (c ≢ s)) → IsNewer t c k → IsNewer (mark_at t s b) c k
    newer_of c k (inl e) n = subst (λ (d : ℕ). IsNewer (mark_at t s b) d k) (sym e) (version_kept k (cases_eq k b) (subst (λ (d : ℕ). IsNewer t d k) e n))
    newer_of c k (inr o) n = rw (get_or-set_other t.segments s c touched no_segment o) n

    mark_touches : Touches s t (mark_at t s b)
    mark_touches = record {
      same = marked_same t s b within inside;
      version = refl;
      depth = refl;
      directory = refl;
      long = length-set t.segments s touched;
      own_depth = ap (λ (k : Segment V). k.depth) same_segment;
      count = λ c. count_of c (cases_eq c s);
      newer = λ c k n. newer_of c k (cases_eq c s) n;
    }

    pub step_touches : ((u ≡ t) ⊎ (u ≡ mark_at t s b)) → Touches s t u
    step_touches (inl e) = subst (Touches s t) (sym e) (touches_none s t)
    step_touches (inr e) = subst (Touches s t) (sym e) mark_touches

    pub step_newer : ((u ≡ t) ⊎ (u ≡ mark_at t s b)) → (k : ℕ) → IsNewer t s k → IsNewer u s k
    step_newer (inl e) k n = subst (λ (x : Table V). IsNewer x s k) (sym e) n
    step_newer (inr e) k n = subst (λ (x : Table V). IsNewer x s k) (sym e) (version_kept k (cases_eq k b) n)

    entries_kept : (k : ℕ) → ((k ≡ b) ⊎ (k ≢ b)) → (bucket_at (set (segment_at t.segments s).buckets b bucket) k).entries ≡ (bucket_at (segment_at t.segments s).buckets k).entries
    entries_kept k (inl e) = subst (λ (d : ℕ). (bucket_at (set (segment_at t.segments s).buckets b bucket) d).entries ≡ (bucket_at (segment_at t.segments s).buckets d).entries) (sym e)
        (ap (λ (x : Bucket V). x.entries) (get_or-set_same (segment_at t.segments s).buckets b bucket no_bucket inside))
    entries_kept k (inr o) = ap (λ (x : Bucket V). x.entries) (get_or-set_other (segment_at t.segments s).buckets b k bucket no_bucket o)

    mark_room : (hash k : ℕ) → IsRoom (segment_at t.segments s) hash k → IsRoom touched hash k
    mark_room hash k r = record {
      within = (let w = r.within in let l = length-set (segment_at t.segments s).buckets b bucket in omega arith);
      free = (let e = ap length (entries_kept k (cases_eq k b)) in let f = r.free in omega arith);
      near = r.near;
    }

    mark_full : (k : ℕ) → 14 ≤ length (bucket_at (segment_at t.segments s).buckets k).entries → 14 ≤ length (bucket_at touched.buckets k).entries
    mark_full k h = (let e = ap length (entries_kept k (cases_eq k b)) in omega arith)

    mark_first : (hash k : ℕ) → IsFirst (segment_at t.segments s) hash k → IsFirst touched hash k
    mark_first hash k f = record {
      room = mark_room hash k f.room;
      home = λ n. mark_full (home_of hash) (f.home n);
      next = λ far. mark_full (after (home_of hash)) (f.next far);
      stash = λ c far w. mark_full c (f.stash c far w);
    }

    pub step_first : (hash k : ℕ) → ((u ≡ t) ⊎ (u ≡ mark_at t s b)) → IsFirst (segment_at t.segments s) hash k → IsFirst (segment_at u.segments s) hash k
    step_first hash k (inl e) f = subst (λ (x : Table V). IsFirst (segment_at x.segments s) hash k) (sym e) f
    step_first hash k (inr e) f = subst (λ (x : Table V). IsFirst (segment_at x.segments s) hash k) (sym e)
        (subst (λ (x : Segment V). IsFirst x hash k) (sym same_segment) (mark_first hash k f))

  -- the segment of a hash is the same where the directory is
  pub same_segment_of : (s hash : ℕ) (t u : Table V) → Touches s t u → segment_of u hash ≡ segment_of t hash
  same_segment_of s hash t u h = ap (λ d. slice_index d (directory_place hash u.depth)) h.directory ∙ ap (λ n. slice_index t.directory (directory_place hash n)) h.depth

  pub stashed_entries : (version : ℕ) (x : Segment V) → entries_of (stashed version x) ≡ entries_of x
  stashed_entries version x = flat_map-append (λ (k : Bucket V). k.entries) x.buckets (record { version = version; entries = [] } ∷ []) ∙ append-nil (entries_of x)

  stashed_older : (version : ℕ) (x : Segment V) → older_entries version (stashed version x).buckets ≡ older_entries version x.buckets
  stashed_older version x =
      flat_map-append _ x.buckets (record { version = version; entries = [] } ∷ [])
      ∙ ap (λ zs. older_entries version x.buckets ++ zs) (none_older version no_bucket (record { version = version; entries = [] } ∷ []) (λ b w. only_one b w))
      ∙ append-nil (older_entries version x.buckets)
    where
      only_one : (b : ℕ) → b < 1 → version ≤ (bucket_at {V = V} (record { version = version; entries = [] } ∷ []) b).version
      only_one zero w = omega arith
      only_one (suc b) w = absurd (omega arith)

  module _ (version depth : ℕ) (directory : List ℕ) (ss : List (Segment V)) (table : IsTable version depth directory ss) (s : ℕ) (within : s < length ss) where
    abbrev grown : Segment V
    grown = stashed version (segment_at ss s)

    stashed_reached : (b : ℕ) → b < length grown.buckets → ((b < length (segment_at ss s).buckets) ⊎ (length (segment_at ss s).buckets ≤ b)) → IsCurrent version (bucket_at grown.buckets b)
    stashed_reached b w (inl h) =
        subst (λ (k : Bucket V). IsCurrent version k) (sym (get_or_append_left (segment_at ss s).buckets (record { version = version; entries = [] } ∷ []) no_bucket b h)) (table.reached s within b h)
    stashed_reached b w (inr h) =
        let l = length-append (segment_at ss s).buckets (record { version = version; entries = [] } ∷ []) in
        let e : length (segment_at ss s).buckets ≡ b = omega arith in
        let one : IsCurrent {V = V} version (record { version = version; entries = [] }) = record { low = omega arith; fresh = λ o. refl } in
        subst (λ (k : ℕ). IsCurrent version (bucket_at grown.buckets k)) e
        (subst (λ (k : Bucket V). IsCurrent version k) (sym (get_or-append_seam (segment_at ss s).buckets (record { version = version; entries = [] }) [] no_bucket)) one)

    pub stashed_table : IsTable version depth directory (slice_set ss s grown)
    stashed_table = put_table version depth directory ss table s within grown refl
        (λ key n. ap (found key) (stashed_entries version (segment_at ss s)) ∙ table.homed s key within n)
        (λ key. subst (λ (es : List (Slot V)). length (found key es) ≤ 1) (sym (stashed_entries version (segment_at ss s))) (table.once s within key))
        (λ b w. stashed_reached b w (cases_lt b (length (segment_at ss s).buckets)))

    pub stashed_same : (key : Bytes) → found key (flat_map entries_of (slice_set ss s grown)) ≡ found key (flat_map entries_of ss)
    stashed_same key = ap (found key) (flat_map_same entries_of no_segment ss s grown within (stashed_entries version (segment_at ss s)))

    pub stashed_older_same : flat_map (λ (k : Segment V). older_entries version k.buckets) (slice_set ss s grown) ≡ flat_map (λ (k : Segment V). older_entries version k.buckets) ss
    stashed_older_same = flat_map_same (λ (k : Segment V). older_entries version k.buckets) no_segment ss s grown within (stashed_older version (segment_at ss s))

-- what stands at a place is all that its key has
pub found_at : {V : Type 0} (version depth : ℕ) (directory : List ℕ) (ss : List (Segment V)) → IsTable version depth directory ss
    → (s b i : ℕ) (e : Slot V) → s < length ss → b < length (segment_at ss s).buckets → i < length (bucket_at (segment_at ss s).buckets b).entries
    → e ≡ get_or (bucket_at (segment_at ss s).buckets b).entries i e → found e.key (flat_map entries_of ss) ≡ e ∷ []
found_at {V} version depth directory ss table s b i e w v u is =
    let es = (bucket_at (segment_at ss s).buckets b).entries in
    let gone : Bucket V = without i (bucket_at (segment_at ss s).buckets b) in
    was_found (flat_map entries_of ss) (flat_map entries_of (slice_set ss s (put_bucket (segment_at ss s) b gone))) e []
    (edited_changes ss s b (put_bucket (segment_at ss s) b gone) (e ∷ []) [] w v
    (record { bucket = gone; new_is = refl; version = refl; change = remove_changes es i e u is }))
    (key_once version depth directory ss table e.key)

-- a bucket that is edited isn't older than it was
pub edited_newer : {V : Type 0} (version : ℕ) (ss : List (Segment V)) (s b : ℕ) (x : Segment V) (out into : List (Slot V)) → s < length ss → b < length (segment_at ss s).buckets
    → Edits (segment_at ss s) x b out into → version ≤ (bucket_at (segment_at ss s).buckets b).version → version ≤ (bucket_at (segment_at (slice_set ss s x) s).buckets b).version
edited_newer {V} version ss s b x out into w v edits newer =
    rw (get_or-set_same ss s x no_segment w)
    (subst (λ (k : Segment V). version ≤ (bucket_at k.buckets b).version) (sym edits.new_is)
    (rw (get_or-set_same (segment_at ss s).buckets b edits.bucket no_bucket v) (let e = edits.version in omega arith)))

abbrev pub valued_bucket : {V : Type 0} → V → ℕ → Bucket V → Bucket V
valued_bucket w i b = record b { entries = alter (with_value w) i b.entries }

-- a value is written
pub valued_table : {V : Type 0} (version depth : ℕ) (directory : List ℕ) (ss : List (Segment V)) → IsTable version depth directory ss
    → (s b i : ℕ) (w : V) → s < length ss → b < length (segment_at ss s).buckets → i < length (bucket_at (segment_at ss s).buckets b).entries
    → IsTable version depth directory (slice_set ss s (put_bucket (segment_at ss s) b (record (bucket_at (segment_at ss s).buckets b) { entries = alter (with_value w) i (bucket_at (segment_at ss s).buckets b).entries })))
valued_table {V} version depth directory ss table s b i w v u z =
    let seg = segment_at ss s in
    let item = item_at (bucket_at seg.buckets b).entries i z in
    let new : Segment V = put_bucket seg b (record (bucket_at seg.buckets b) { entries = alter (with_value w) i (bucket_at seg.buckets b).entries }) in
    let c : Changes (entries_in seg.buckets) (entries_in new.buckets) (item.0 ∷ []) (with_value w item.0 ∷ []) =
    change_in_part (λ (k : Bucket V). k.entries) no_bucket seg.buckets b (record (bucket_at seg.buckets b) { entries = alter (with_value w) i (bucket_at seg.buckets b).entries })
    (item.0 ∷ []) (with_value w item.0 ∷ []) u (alter_changes (with_value w) (bucket_at seg.buckets b).entries i item.0 z item.1) in
    put_table version depth directory ss table s v new refl
    (λ key n. none_after (has_key key) c (table.homed s key v n) (same_none item.0 key (has_key key item.0) refl
    (none_out key (table.homed s key v n) c)))
    (λ key. let l = length_change (has_key key) c in let o = table.once s v key in let q = same_count item.0 key (has_key key item.0) refl in omega arith)
    (λ d h. version_of d h (cases_eq d b))
  where
    same_count : (e : Slot V) (key : Bytes) (t : Bool) → has_key key e ≡ t → length (found key (with_value w e ∷ [])) ≡ length (found key (e ∷ []))
    same_count e key true h = rw h refl
    same_count e key false h = rw h refl

    same_none : (e : Slot V) (key : Bytes) (t : Bool) → has_key key e ≡ t → found key (e ∷ []) ≡ [] → found key (with_value w e ∷ []) ≡ []
    same_none e key true h n = absurd (let f : e ∷ [] ≡ [] = rw h at n in cc)
    same_none e key false h n = rw h refl

    none_out : (key : Bytes) {xs ys out into : List (Slot V)} → found key xs ≡ [] → Changes xs ys out into → found key out ≡ []
    none_out key {xs} {ys} {out} {into} n c = empty_of (found key out) (let p = part_of key c in let f = ap length n in omega arith)

    out_none : (p : Slot V → Bool) {xs ys out into : List (Slot V)} → Changes xs ys out into → filter p xs ≡ [] → filter p out ≡ []
    out_none p {xs} {ys} {out} {into} c none = empty_of (filter p out)
        (let e = ap (λ zs. length (filter p zs)) c.old_is ∙ ap length (filter_parts p c.before out c.behind) in
        let f = length-append (filter p c.before) (filter p out ++ filter p c.behind) in
        let g = length-append (filter p out) (filter p c.behind) in
        let n = ap length none in omega arith)

    same_staged : (e : Slot V) (t : Bool) → e.staged ≡ t → staged_in (e ∷ []) ≡ [] → staged_in (with_value w e ∷ []) ≡ []
    same_staged e true is none = absurd (let f : cond true (e ∷ []) [] ≡ [] = sym (ap (λ (b : Bool). cond b (e ∷ []) []) is) ∙ none in cc)
    same_staged e false is none = ap (λ (b : Bool). cond b (with_value w e ∷ []) []) is

    changed_current : IsCurrent version (valued_bucket w i (bucket_at (segment_at ss s).buckets b))
    changed_current =
        let r = table.reached s v b u in
        let es = (bucket_at (segment_at ss s).buckets b).entries in
        let item = item_at es i z in
        let c = alter_changes (with_value w) es i item.0 z item.1 in
        record {
          low = r.low;
          fresh = λ o. none_after (λ (k : Slot V). k.staged) c (r.fresh o) (same_staged item.0 item.0.staged refl (out_none (λ (k : Slot V). k.staged) c (r.fresh o)));
        }

    version_of : (d : ℕ) → d < length (slice_set (segment_at ss s).buckets b (valued_bucket w i (bucket_at (segment_at ss s).buckets b))) → ((d ≡ b) ⊎ (d ≢ b)) → IsCurrent version (bucket_at (slice_set (segment_at ss s).buckets b (valued_bucket w i (bucket_at (segment_at ss s).buckets b))) d)
    version_of d h (inl same) =
        subst (λ (k : ℕ). IsCurrent version (bucket_at (slice_set (segment_at ss s).buckets b (valued_bucket w i (bucket_at (segment_at ss s).buckets b))) k)) (sym same)
        (subst (λ (k : Bucket V). IsCurrent version k) (sym (get_or-set_same (segment_at ss s).buckets b (valued_bucket w i (bucket_at (segment_at ss s).buckets b)) no_bucket u)) changed_current)
    version_of d h (inr other) =
        subst (λ (k : Bucket V). IsCurrent version k) (sym (get_or-set_other (segment_at ss s).buckets b d (valued_bucket w i (bucket_at (segment_at ss s).buckets b)) no_bucket other))
        (table.reached s v d (let l = length-set (segment_at ss s).buckets b (valued_bucket w i (bucket_at (segment_at ss s).buckets b)) in omega arith))

-- an entry that is made visible brings no further key
pub shown_none : {V : Type 0} (ss : List (Segment V)) (s b : ℕ) (x : Segment V) (e : Slot V) (key : Bytes) → s < length ss → b < length (segment_at ss s).buckets
    → Edits (segment_at ss s) x b (e ∷ []) (shown e ∷ []) → found key (entries_of (segment_at ss s)) ≡ [] → found key (shown e ∷ []) ≡ []
shown_none {V} ss s b x e key w v edits none =
    let c = change_in_part (λ (k : Bucket V). k.entries) no_bucket (segment_at ss s).buckets b edits.bucket (e ∷ []) (shown e ∷ []) v edits.change in
    same_none (has_key key e) refl (empty_of (found key (e ∷ [])) (let p = part_of key c in let f = ap length none in omega arith))
  where
    same_none : (t : Bool) → has_key key e ≡ t → found key (e ∷ []) ≡ [] → found key (shown e ∷ []) ≡ []
    same_none true h n = absurd (let f : e ∷ [] ≡ [] = rw h at n in cc)
    same_none false h n = rw h refl

-- what a written value changes in the whole table
pub valued_changes : {V : Type 0} (ss : List (Segment V)) (s b i : ℕ) (w : V) (e : Slot V) → s < length ss → b < length (segment_at ss s).buckets → i < length (bucket_at (segment_at ss s).buckets b).entries
    → e ≡ get_or (bucket_at (segment_at ss s).buckets b).entries i e
    → Changes (flat_map entries_of ss) (flat_map entries_of (slice_set ss s (put_bucket (segment_at ss s) b (valued_bucket w i (bucket_at (segment_at ss s).buckets b))))) (e ∷ []) (with_value w e ∷ [])
valued_changes {V} ss s b i w e v u z is =
    edited_changes ss s b (put_bucket (segment_at ss s) b (valued_bucket w i (bucket_at (segment_at ss s).buckets b))) (e ∷ []) (with_value w e ∷ []) v u
    (altered_edits (with_value w) (segment_at ss s) b i e u z is)

-- an entry that comes leaves the buckets before its own as they were
pub edited_first : {V : Type 0} (s x : Segment V) (hash b : ℕ) (out into : List (Slot V)) → Edits s x b out into → IsFirst s hash b → IsFirstOf x hash b
edited_first {V} s x hash b out into edits f =
    let stays : (c : ℕ) → c ≢ b → bucket_at x.buckets c ≡ bucket_at s.buckets c =
    λ c n. subst (λ (k : Segment V). bucket_at k.buckets c ≡ bucket_at s.buckets c) (sym edits.new_is) (get_or-set_other s.buckets b c edits.bucket no_bucket n) in
    record {
      near = f.room.near;
      home = λ n. subst (λ (k : Bucket V). 14 ≤ length k.entries) (sym (stays (home_of hash) (λ e. n (sym e)))) (f.home n);
      next = λ far. subst (λ (k : Bucket V). 14 ≤ length k.entries) (sym (stays (after (home_of hash)) (below_stash far))) (f.next far);
      stash = λ c far w. subst (λ (k : Bucket V). 14 ≤ length k.entries) (sym (stays c (λ (e : c ≡ b). absurd (omega arith)))) (f.stash c far w);
    }
  where
    after_low : (h : ℕ) (t : Bool) → eqb h 55 ≡ t → h < 56 → after h < 56
    after_low h true e w = rw e (omega arith)
    after_low h false e w = rw e (let n : h ≢ 55 = λ (is : h ≡ 55). absurd (let y = eq-eqb h 55 is in cc) in omega arith)

    below_stash : 56 ≤ b → after (home_of hash) ≢ b
    below_stash far = λ (e : after (home_of hash) ≡ b). absurd (let w = after_low (home_of hash) (eqb (home_of hash) 55) refl (omega arith) in omega arith)
