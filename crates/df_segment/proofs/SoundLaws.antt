-- A segment stays sound where one bucket is changed.
use Rattle.std.proofs.Common.{◌≡◌, ◌≢◌, ℕ, ◌+◌, ◌<◌, ◌≤◌, List, [], ◌∷◌, ◌++◌, length, get_or, Bool, true, false, refl, ap, sym, subst, ◌∙◌, arith, ◌⊎◌, inl, inr, length-append}
use Rattle.std.specs.Prelude.{slice_index_or, slice_set}
use Rattle.std.specs.Str.{bytes_eq}
use Rattle.std.proofs.lemmas.Bool.{cases_lt, cases_eq}
use Rattle.std.proofs.lemmas.List.{get_or-set_other, get_or-set_same, length-set}
use Rattle.std.proofs.lemmas.Slice.Eq.{bytes_eq-Decides}
use Rattle.df_model.specs.Values.{Bytes}
use Rattle.df_model.specs.Hash.{fnv64}
use Rattle.df_segment.specs.Entries.{Slot, has_key, found, alter}
use Rattle.df_segment.specs.Changes.{Changes}
use Rattle.std.proofs.Math.Seq.{get_or-append_seam}
use Rattle.df_segment.specs.Buckets.{Bucket, Segment, bucket_at, no_bucket, marked, added, put_bucket, entries_in, IsAt, IsSound, SpillsMore, Edits, home_of, after}
use Rattle.df_segment.proofs.ListLaws.{filter_flat_map, flat_map_empty, flat_map_same, empty_of}
use Rattle.df_segment.proofs.ChangeLaws.{alter_changes, change_in_part, filter_parts, length_change, none_after}
use Rattle.df_segment.proofs.BucketLaws.{item_at}

pub same_key : (own key : Bytes) → bytes_eq own key ≡ true → own ≡ key
same_key own key e = (bytes_eq-Decides own key).0 e

not_flagged : (old new : Bool) → (old ≡ true → new ≡ true) → new ≡ false → old ≡ false
not_flagged false new more e = refl
not_flagged true new more e = absurd (let h = more refl in cc)

module _ {V : Type 0} where
  -- the part that goes is of the list
  pub part_of : (key : Bytes) {xs ys out into : List (Slot V)} → Changes xs ys out into → length (found key out) ≤ length (found key xs)
  part_of key {xs} {ys} {out} {into} c =
      let e = ap (λ zs. length (found key zs)) c.old_is ∙ ap length (filter_parts (has_key key) c.before out c.behind) in
      let f = length-append (found key c.before) (found key out ++ found key c.behind) in
      let g = length-append (found key out) (found key c.behind) in
      omega arith

module _ {V : Type 0} (bs : List (Bucket V)) (b : ℕ) (bucket : Bucket V) (out into : List (Slot V)) (within : b < length bs)
    (change : Changes (bucket_at bs b).entries bucket.entries out into) where
  abbrev pub written : List (Bucket V)
  written = slice_set bs b bucket

  pub written_changes : Changes (entries_in bs) (entries_in written) out into
  written_changes = change_in_part (λ (k : Bucket V). k.entries) no_bucket bs b bucket out into within change

  none_there : (c : ℕ) (key : Bytes) → ((c ≡ b) ⊎ (c ≢ b)) → (c ≡ b → found key into ≡ [])
      → found key (bucket_at bs c).entries ≡ [] → found key (bucket_at written c).entries ≡ []
  none_there c key (inr other) fresh none = rw (get_or-set_other bs b c bucket no_bucket other) none
  none_there c key (inl same) fresh none =
      let n : found key (bucket_at bs b).entries ≡ [] = rw same at none in
      subst (λ (k : ℕ). found key (bucket_at written k).entries ≡ []) (sym same)
      (rw (get_or-set_same bs b bucket no_bucket within) (none_after (has_key key) change n (fresh same)))

  pub edited_sound : (spilled spilled' : List Bool) → IsSound spilled bs → SpillsMore spilled spilled'
      → ((key : Bytes) → b < 56 → b ≢ home_of (fnv64 key) → b ≢ after (home_of (fnv64 key)) → found key into ≡ [])
      → ((key : Bytes) → 56 ≤ b → slice_index_or spilled' (home_of (fnv64 key)) false ≡ false → found key into ≡ [])
      → ((key : Bytes) → length (found key (entries_in bs)) + length (found key into) ≤ 1 + length (found key out))
      → IsSound spilled' written
  edited_sound spilled spilled' sound more near spills once =
      let l = length-set bs b bucket in
      record {
        enough = (let e = sound.enough in omega arith);
        near = λ c key w h n. none_there c key (cases_eq c b)
            (λ e. near key (omega arith) (subst (λ (k : ℕ). k ≢ home_of (fnv64 key)) e h) (subst (λ (k : ℕ). k ≢ after (home_of (fnv64 key))) e n))
            (sound.near c key w h n);
        spills = λ c key far w no. none_there c key (cases_eq c b)
            (λ e. spills key (omega arith) no)
            (sound.spills c key far (omega arith) (not_flagged _ _ (more (home_of (fnv64 key))) no));
        once = λ key. (let e = length_change (has_key key) written_changes in let f = once key in omega arith);
      }

  -- where what comes has no further key
  pub lesser_sound : (spilled : List Bool) → IsSound spilled bs → ((key : Bytes) → length (found key into) ≤ length (found key out)) → IsSound spilled written
  lesser_sound spilled sound less =
      edited_sound spilled spilled sound (λ _ e. e)
      (λ key w h n. empty_of (found key into) (let e = less key in let p = part_of key change in let z = ap length (sound.near b key w h n) in omega arith))
      (λ key far no. empty_of (found key into) (let e = less key in let p = part_of key change in let z = ap length (sound.spills b key far within no) in omega arith))
      (λ key. let e = less key in let o = sound.once key in omega arith)

one_other : {V : Type 0} (e : Slot V) (key : Bytes) (t : Bool) → has_key key e ≡ t → (t ≡ true → ⊥) → found key (e ∷ []) ≡ []
one_other e key false is n = rw is refl
one_other e key true is n = absurd (n refl)

-- an entry has its own key alone
pub other_key : {V : Type 0} (e : Slot V) (key : Bytes) → (e.key ≡ key → ⊥) → found key (e ∷ []) ≡ []
other_key e key n = one_other e key (bytes_eq e.key key) refl (λ is. n (same_key e.key key is))

one_length : {V : Type 0} (e : Slot V) (key : Bytes) (t : Bool) → has_key key e ≡ t → length (found key (e ∷ [])) ≤ 1
one_length e key true is = rw is (omega arith)
one_length e key false is = rw is (omega arith)

module _ {V : Type 0} (bs : List (Bucket V)) (b : ℕ) (e : Slot V) (bucket : Bucket V) where
  fits_once : (key : Bytes) (t : Bool) → has_key key e ≡ t → found e.key (entries_in bs) ≡ [] → length (found key (entries_in bs)) ≤ 1
      → length (found key (entries_in bs)) + length (found key (e ∷ [])) ≤ 1
  fits_once key true is none most =
      let f : length (found key (entries_in bs)) ≡ 0 = subst (λ (k : Bytes). length (found k (entries_in bs)) ≡ 0) (same_key e.key key is) (ap length none) in
      let o = one_length e key true is in omega arith
  fits_once key false is none most = rw is (omega arith)

  pub staged_sound : (hash : ℕ) (spilled spilled' : List Bool) → IsSound spilled bs → SpillsMore spilled spilled'
      → hash ≡ fnv64 e.key → b < length bs
      → (b < 56 → b ≢ home_of hash → b ≡ after (home_of hash))
      → (56 ≤ b → slice_index_or spilled' (home_of hash) false ≡ true)
      → found e.key (entries_in bs) ≡ []
      → Changes (bucket_at bs b).entries bucket.entries [] (e ∷ [])
      → IsSound spilled' (slice_set bs b bucket)
  staged_sound hash spilled spilled' sound more is within near spills absent change =
      let home : (key : Bytes) → e.key ≡ key → home_of hash ≡ home_of (fnv64 key) = λ key same. ap home_of (is ∙ ap fnv64 same) in
      edited_sound bs b bucket [] (e ∷ []) within change spilled spilled' sound more
      (λ key w h n. other_key e key (λ same. n (near w (λ q. h (q ∙ home key same)) ∙ ap after (home key same))))
      (λ key far no. other_key e key (λ same.
      let f : slice_index_or spilled' (home_of (fnv64 key)) false ≡ true = subst (λ (k : ℕ). slice_index_or spilled' k false ≡ true) (home key same) (spills far) in cc))
      (λ key. fits_once key (has_key key e) refl absent (sound.once key))

-- a mark leaves the entries
pub marked_entries : {V : Type 0} (bs : List (Bucket V)) (b version : ℕ) → b < length bs → entries_in (slice_set bs b (marked version (bucket_at bs b))) ≡ entries_in bs
marked_entries {V} bs b version w = flat_map_same (λ (k : Bucket V). k.entries) no_bucket bs b (marked version (bucket_at bs b)) w refl

same_entries : {V : Type 0} (bs : List (Bucket V)) (b version c : ℕ) → b < length bs → ((c ≡ b) ⊎ (c ≢ b))
    → (bucket_at (slice_set bs b (marked version (bucket_at bs b))) c).entries ≡ (bucket_at bs c).entries
same_entries {V} bs b version c w (inl same) =
    subst (λ (k : ℕ). (bucket_at (slice_set bs b (marked version (bucket_at bs b))) k).entries ≡ (bucket_at bs k).entries) (sym same)
    (ap (λ (k : Bucket V). k.entries) (get_or-set_same bs b (marked version (bucket_at bs b)) no_bucket w))
same_entries {V} bs b version c w (inr other) =
    ap (λ (k : Bucket V). k.entries) (get_or-set_other bs b c (marked version (bucket_at bs b)) no_bucket other)

pub marked_sound : {V : Type 0} (spilled : List Bool) (bs : List (Bucket V)) (b version : ℕ) → IsSound spilled bs → b < length bs
    → IsSound spilled (slice_set bs b (marked version (bucket_at bs b)))
marked_sound {V} spilled bs b version sound w =
    let l = length-set bs b (marked version (bucket_at bs b)) in
    record {
      enough = (let e = sound.enough in omega arith);
      near = λ c key v h n. ap (found key) (same_entries bs b version c w (cases_eq c b)) ∙ sound.near c key v h n;
      spills = λ c key far v no. ap (found key) (same_entries bs b version c w (cases_eq c b)) ∙ sound.spills c key far (omega arith) no;
      once = λ key. subst (λ (xs : List (Slot V)). length (found key xs) ≤ 1) (sym (marked_entries bs b version w)) (sound.once key);
    }

-- a key that is in neither of its two buckets, nor in a stash bucket where its home has spilled, is nowhere
module _ {V : Type 0} (spilled : List Bool) (bs : List (Bucket V)) (sound : IsSound spilled bs) (key : Bytes)
    (home : found key (bucket_at bs (home_of (fnv64 key))).entries ≡ [])
    (next : found key (bucket_at bs (after (home_of (fnv64 key)))).entries ≡ [])
    (stash : slice_index_or spilled (home_of (fnv64 key)) false ≡ true → (b : ℕ) → 56 ≤ b → b < length bs → found key (bucket_at bs b).entries ≡ []) where
  in_stash : (flag : Bool) → slice_index_or spilled (home_of (fnv64 key)) false ≡ flag → (b : ℕ) → 56 ≤ b → b < length bs → found key (bucket_at bs b).entries ≡ []
  in_stash true e b far w = stash e b far w
  in_stash false e b far w = sound.spills b key far w e

  in_regular : (b : ℕ) → b < 56 → ((b ≡ home_of (fnv64 key)) ⊎ (b ≢ home_of (fnv64 key)))
      → ((b ≡ after (home_of (fnv64 key))) ⊎ (b ≢ after (home_of (fnv64 key)))) → found key (bucket_at bs b).entries ≡ []
  in_regular b w (inl e) _ = subst (λ (k : ℕ). found key (bucket_at bs k).entries ≡ []) (sym e) home
  in_regular b w (inr n) (inl e) = subst (λ (k : ℕ). found key (bucket_at bs k).entries ≡ []) (sym e) next
  in_regular b w (inr n) (inr m) = sound.near b key w n m

  pub nowhere : found key (entries_in bs) ≡ []
  nowhere =
      filter_flat_map (has_key key) (λ (b : Bucket V). b.entries) bs
      ∙ flat_map_empty (λ (b : Bucket V). found key b.entries) no_bucket bs
      (λ b within. elim (cases_lt b 56) as (λ _. found key (bucket_at bs b).entries ≡ []) [
        | inl near ↦ in_regular b near (cases_eq b (home_of (fnv64 key))) (cases_eq b (after (home_of (fnv64 key))))
        | inr far ↦ in_stash _ refl b far within
      ])

-- an entry that was pushed stands at the end of its bucket
pub pushed_stands : {V : Type 0} (bs : List (Bucket V)) (b slot : ℕ) (e : Slot V) → b < length bs → slot ≡ length (bucket_at bs b).entries
    → (b < length (slice_set bs b (added e (bucket_at bs b)))) × IsAt (bucket_at (slice_set bs b (added e (bucket_at bs b))) b).entries slot e.key
pushed_stands {V} bs b slot e w at =
    let l = length-set bs b (added e (bucket_at bs b)) in
    let same = get_or-set_same bs b (added e (bucket_at bs b)) no_bucket w in
    let es = (bucket_at bs b).entries in
    let m = length-append es (e ∷ []) in (
      omega arith,
      rw same (omega arith, (λ d. rw at (ap (has_key e.key) (get_or-append_seam es e [] d) ∙ (bytes_eq-Decides e.key e.key).1 refl))),
    )

-- a change of one entry that keeps its key
pub altered_sound : {V : Type 0} (f : Slot V → Slot V) (spilled : List Bool) (bs : List (Bucket V)) (b i : ℕ) → ((e : Slot V) → (f e).key ≡ e.key)
    → IsSound spilled bs → b < length bs → i < length (bucket_at bs b).entries
    → IsSound spilled (slice_set bs b (record (bucket_at bs b) { entries = alter f i (bucket_at bs b).entries }))
altered_sound {V} f spilled bs b i keeps sound w s =
    let es = (bucket_at bs b).entries in
    let item = item_at es i s in
    lesser_sound bs b (record (bucket_at bs b) { entries = alter f i es }) (item.0 ∷ []) (f item.0 ∷ []) w
    (alter_changes f es i item.0 s item.1) spilled sound
    (λ key. same_length item.0 (f item.0) key (keeps item.0) (has_key key item.0) refl)
  where
    same_length : (x y : Slot V) (key : Bytes) → y.key ≡ x.key → (t : Bool) → has_key key x ≡ t → length (found key (y ∷ [])) ≤ length (found key (x ∷ []))
    same_length x y key e true h = rw (e, h) (omega arith)
    same_length x y key e false h = rw (e, h) (omega arith)

-- what changed in a segment where one entry is changed
pub altered_edits : {V : Type 0} (f : Slot V → Slot V) (s : Segment V) (b i : ℕ) (e : Slot V) → b < length s.buckets → i < length (bucket_at s.buckets b).entries
    → e ≡ get_or (bucket_at s.buckets b).entries i e
    → Edits s (put_bucket s b (record (bucket_at s.buckets b) { entries = alter f i (bucket_at s.buckets b).entries })) b (e ∷ []) (f e ∷ [])
altered_edits {V} f s b i e w t is = record {
  bucket = record (bucket_at s.buckets b) { entries = alter f i (bucket_at s.buckets b).entries };
  new_is = refl;
  version = refl;
  change = alter_changes f (bucket_at s.buckets b).entries i e t is;
}

-- the same by what a look-up has seen
pub nowhere_by : {V : Type 0} (spilled : List Bool) (bs : List (Bucket V)) → IsSound spilled bs → (key : Bytes)
    → (looked : List (Bucket V)) (home next : ℕ) → looked ≡ bs → home ≡ home_of (fnv64 key)
    → found key (bucket_at looked home).entries ≡ []
    → next ≡ after home → found key (bucket_at looked next).entries ≡ []
    → (slice_index_or spilled home false ≡ true → (b : ℕ) → 56 ≤ b → b < length looked → found key (bucket_at looked b).entries ≡ [])
    → found key (entries_in bs) ≡ []
nowhere_by {V} spilled bs sound key looked home next same is none after_is next_none stash =
    nowhere spilled bs sound key
    (subst (λ (h : ℕ). found key (bucket_at bs h).entries ≡ []) is (subst (λ (l : List (Bucket V)). found key (bucket_at l home).entries ≡ []) same none))
    (subst (λ (h : ℕ). found key (bucket_at bs (after h)).entries ≡ []) is
    (subst (λ (k : ℕ). found key (bucket_at bs k).entries ≡ []) after_is
    (subst (λ (l : List (Bucket V)). found key (bucket_at l next).entries ≡ []) same next_none)))
    (subst (λ (h : ℕ). slice_index_or spilled h false ≡ true → (b : ℕ) → 56 ≤ b → b < length bs → found key (bucket_at bs b).entries ≡ []) is
    (subst (λ (l : List (Bucket V)). slice_index_or spilled home false ≡ true → (b : ℕ) → 56 ≤ b → b < length l → found key (bucket_at l b).entries ≡ []) same stash))
