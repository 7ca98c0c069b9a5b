-- A table where one segment is replaced, and what a touch sends.
use Rattle.std.proofs.Common.{◌≡◌, ◌≢◌, ℕ, suc, ◌<◌, ◌≤◌, List, [], ◌++◌, length, get_or, take, drop, set, Bool, true, refl, ap, sym, subst, ◌∙◌, arith, append_assoc, ◌⊎◌, inl, inr}
use Rattle.std.specs.List.{flat_map}
use Rattle.std.specs.Prelude.{slice_index, slice_set}
use Rattle.std.proofs.lemmas.Bool.{cases_eq, cases_lt}
use Rattle.std.proofs.lemmas.List.{get_or-set_other, get_or-set_same, length-set}
use Rattle.df_model.specs.Values.{Bytes}
use Rattle.df_model.specs.Hash.{fnv64}
use Rattle.df_segment.specs.Entries.{Slot, has_key, found}
use Rattle.df_segment.specs.Changes.{Changes}
use Rattle.df_segment.specs.Buckets.{Bucket, Segment, entries_of, entries_in, bucket_at, no_bucket, put_bucket, marked, IsOnce, Edits}
use Rattle.df_segment.proofs.ListLaws.{flat_map_parted, flat_map_set, flat_map_same}
use Rattle.df_segment.proofs.ChangeLaws.{change_in_part, none_after}
use Rattle.df_segment.proofs.SoundLaws.{marked_entries}
use Rattle.df_dashtable.specs.Visible.{under, visible_in, older_in, older_entries}
use Rattle.df_dashtable.specs.Moves.{Moves, TakenOut}
use Rattle.df_dashtable.specs.Tables.{Table, IsTable, Sends, Same, Reached, IsCurrent, staged_in, segment_at, no_segment, directory_place, older, mark_at}
use Rattle.df_dashtable.proofs.ShareLaws.{places_same}
use Rattle.df_dashtable.proofs.CutLaws.{taken_moves, mark_takes, newer_keeps, older_yes, older_no}
use Rattle.df_dashtable.proofs.OnceLaws.{key_once, older_found}

pub taken_within : {X : Type 0} (left right old part new : List X) → TakenOut old part new → TakenOut (left ++ (old ++ right)) part (left ++ (new ++ right))
taken_within {X} left right old part new t = record {
  before = left ++ t.before;
  behind = t.behind ++ right;
  old_is = ap (λ (zs : List X). left ++ (zs ++ right)) t.old_is
      ∙ ap (λ (zs : List X). left ++ zs) (append_assoc t.before (part ++ t.behind) right ∙ ap (λ (zs : List X). t.before ++ zs) (append_assoc part t.behind right))
      ∙ sym (append_assoc left t.before (part ++ (t.behind ++ right)));
  new_is = ap (λ (zs : List X). left ++ (zs ++ right)) t.new_is
      ∙ ap (λ (zs : List X). left ++ zs) (append_assoc t.before t.behind right)
      ∙ sym (append_assoc left t.before (t.behind ++ right));
}

pub taken_in_part : {X A : Type 0} (f : X → List A) (d : X) (l : List X) (i : ℕ) (b : X) (part : List A) → i < length l
    → TakenOut (f (get_or l i d)) part (f b) → TakenOut (flat_map f l) part (flat_map f (set l i b))
taken_in_part f d l i b part w t =
    subst (λ zs. TakenOut zs part (flat_map f (set l i b))) (sym (flat_map_parted f d l i w))
    (subst (λ zs. TakenOut (flat_map f (take i l) ++ (f (get_or l i d) ++ flat_map f (drop (suc i) l))) part zs) (sym (flat_map_set f l i b w))
    (taken_within (flat_map f (take i l)) (flat_map f (drop (suc i) l)) (f (get_or l i d)) part (f b) t))

module _ {V : Type 0} (t : Table V) (s b : ℕ) (within : s < length t.segments) (inside : b < length (segment_at t.segments s).buckets) where
  pub touched_sends : (takes : Bool) (holds holds' : List (Bytes × V) → Type 0)
      → ((key : Bytes) → length (under key (older t)) ≤ 1)
      → (bucket_at (segment_at t.segments s).buckets b).version < t.version
      → (takes ≡ true → (es : List (Bytes × V)) → holds es → holds' (es ++ visible_in (bucket_at (segment_at t.segments s).buckets b)))
      → Sends takes holds holds' t (mark_at t s b)
  touched_sends takes holds holds' once old says = record {
    moved = visible_in (bucket_at (segment_at t.segments s).buckets b);
    sent = says;
    moves = λ _. taken_moves (older t) (visible_in (bucket_at (segment_at t.segments s).buckets b)) (older (mark_at t s b))
        (taken_in_part (λ (k : Segment V). older_entries t.version k.buckets) no_segment t.segments s
        (put_bucket (segment_at t.segments s) b (marked t.version (bucket_at (segment_at t.segments s).buckets b))) (visible_in (bucket_at (segment_at t.segments s).buckets b)) within
        (mark_takes t.version no_bucket (segment_at t.segments s).buckets b (marked t.version (bucket_at (segment_at t.segments s).buckets b)) inside old (omega arith)))
        once;
  }

  -- what a mark takes out of the older entries
  pub mark_moves : ((key : Bytes) → length (under key (older t)) ≤ 1)
      → Moves (older t) (older_in t.version (bucket_at (segment_at t.segments s).buckets b)) (older (mark_at t s b))
  mark_moves once =
      let seg = segment_at t.segments s in
      let bucket = bucket_at seg.buckets b in
      let new : Bucket V = marked t.version bucket in
      elim (cases_lt bucket.version t.version) as (λ _. Moves (older t) (older_in t.version bucket) (older (mark_at t s b))) [
        | inl old ↦
            subst (λ (zs : List (Bytes × V)). Moves (older t) zs (older (mark_at t s b))) (sym (older_yes t.version bucket old))
            (taken_moves (older t) (visible_in bucket) (older (mark_at t s b))
            (taken_in_part (λ (k : Segment V). older_entries t.version k.buckets) no_segment t.segments s (put_bucket seg b new) (visible_in bucket) within
            (mark_takes t.version no_bucket seg.buckets b new inside old (omega arith))) once)
        | inr newer ↦
            subst (λ (zs : List (Bytes × V)). Moves (older t) zs (older (mark_at t s b))) (sym (older_no t.version bucket newer))
            (λ key. ap (under key) (sym (flat_map_same (λ (k : Segment V). older_entries t.version k.buckets) no_segment t.segments s (put_bucket seg b new) within
            (newer_keeps t.version no_bucket seg.buckets b new inside newer (omega arith)))))
      ]

module _ {V : Type 0} (version depth : ℕ) (directory : List ℕ) (ss : List (Segment V)) (table : IsTable version depth directory ss) where
  pub table_once : (v : ℕ) (key : Bytes) → length (under key (flat_map (λ s. older_entries v s.buckets) ss)) ≤ 1
  table_once v key = (let a = key_once version depth directory ss table key in let b = older_found v key ss in omega arith)

  -- one segment is replaced by another
  module _ (s : ℕ) (within : s < length ss) (x : Segment V) where
    pub put_table : x.depth ≡ (segment_at ss s).depth
        → ((key : Bytes) → s ≢ slice_index directory (directory_place (fnv64 key) depth) → found key (entries_of x) ≡ [])
        → IsOnce x → Reached version x → IsTable version depth directory (slice_set ss s x)
    put_table deep homed once reached =
        let l = length-set ss s x in
        let same : segment_at (slice_set ss s x) s ≡ x = get_or-set_same ss s x no_segment within in
        let low = table.shallow s within in
        record {
          deep = table.deep;
          whole = table.whole;
          named = λ q w. (let n = table.named q w in omega arith);
          shallow = λ c w. elim (cases_eq c s) as (λ _. (segment_at (slice_set ss s x) c).depth ≤ depth) [
            | inl e ↦ subst (λ (k : ℕ). (segment_at (slice_set ss s x) k).depth ≤ depth) (sym e) (rw same (omega arith))
            | inr e ↦ rw (get_or-set_other ss s c x no_segment e) (table.shallow c (omega arith))
          ];
          shared = (let p = places_same depth ss s x within deep in let h = table.shared in omega arith);
          homed = λ c key w n. elim (cases_eq c s) as (λ _. found key (entries_of (segment_at (slice_set ss s x) c)) ≡ []) [
            | inl e ↦ subst (λ (k : ℕ). found key (entries_of (segment_at (slice_set ss s x) k)) ≡ []) (sym e) (rw same (homed key (λ f. n (e ∙ f))))
            | inr e ↦ rw (get_or-set_other ss s c x no_segment e) (table.homed c key (omega arith) n)
          ];
          once = λ c w. elim (cases_eq c s) as (λ _. IsOnce (segment_at (slice_set ss s x) c)) [
            | inl e ↦ subst (λ (k : ℕ). IsOnce (segment_at (slice_set ss s x) k)) (sym e) (rw same once)
            | inr e ↦ (λ key. rw (get_or-set_other ss s c x no_segment e) (table.once c (omega arith) key))
          ];
          reached = λ c w. elim (cases_eq c s) as (λ _. Reached version (segment_at (slice_set ss s x) c)) [
            | inl e ↦ subst (λ (k : ℕ). Reached version (segment_at (slice_set ss s x) k)) (sym e) (rw same reached)
            | inr e ↦ subst (λ (k : Segment V). Reached version k) (sym (get_or-set_other ss s c x no_segment e)) (table.reached c (omega arith))
          ];
        }

  version_after : (bs : List (Bucket V)) (b : ℕ) (bucket : Bucket V) → b < length bs → IsCurrent version bucket
      → ((d : ℕ) → d < length bs → IsCurrent version (bucket_at bs d))
      → (d : ℕ) → d < length (slice_set bs b bucket) → ((d ≡ b) ⊎ (d ≢ b)) → IsCurrent version (bucket_at (slice_set bs b bucket) d)
  version_after bs b bucket w low all d h (inl same) = subst (λ (k : ℕ). IsCurrent version (bucket_at (slice_set bs b bucket) k)) (sym same)
      (subst (λ (k : Bucket V). IsCurrent version k) (sym (get_or-set_same bs b bucket no_bucket w)) low)
  version_after bs b bucket w low all d h (inr other) =
      subst (λ (k : Bucket V). IsCurrent version k) (sym (get_or-set_other bs b d bucket no_bucket other)) (all d (let l = length-set bs b bucket in omega arith))

  -- a bucket is marked
  pub marked_table : (s b : ℕ) (within : s < length ss) (inside : b < length (segment_at ss s).buckets)
      → IsTable version depth directory (slice_set ss s (put_bucket (segment_at ss s) b (marked version (bucket_at (segment_at ss s).buckets b))))
  marked_table s b within inside =
      let bs = (segment_at ss s).buckets in
      let bucket : Bucket V = marked version (bucket_at bs b) in
      put_table s within (put_bucket (segment_at ss s) b bucket) refl
      (λ key n. ap (found key) (marked_entries bs b version inside) ∙ table.homed s key within n)
      (λ key. subst (λ (es : List (Slot V)). length (found key es) ≤ 1) (sym (marked_entries bs b version inside)) (table.once s within key))
      (λ d h. version_after bs b bucket inside (record { low = omega arith; fresh = λ o. absurd (omega arith) }) (table.reached s within) d h (cases_eq d b))

  -- a bucket's entries are edited: a key that comes is one of this segment
  pub edited_table : (s b : ℕ) (within : s < length ss) (inside : b < length (segment_at ss s).buckets) (x : Segment V) (out into : List (Slot V))
      → Edits (segment_at ss s) x b out into
      → ((key : Bytes) → s ≢ slice_index directory (directory_place (fnv64 key) depth) → found key into ≡ [])
      → ((bucket_at (segment_at ss s).buckets b).version < version → staged_in into ≡ [])
      → IsOnce x → IsTable version depth directory (slice_set ss s x)
  edited_table s b within inside x out into edits homed fresh once =
      let bs = (segment_at ss s).buckets in
      let c : Changes (entries_in bs) (entries_in (slice_set bs b edits.bucket)) out into =
      change_in_part (λ (k : Bucket V). k.entries) no_bucket bs b edits.bucket out into inside edits.change in
      put_table s within x
      (subst (λ (k : Segment V). k.depth ≡ (segment_at ss s).depth) (sym edits.new_is) refl)
      (λ key n. subst (λ (k : Segment V). found key (entries_of k) ≡ []) (sym edits.new_is)
      (none_after (has_key key) c (table.homed s key within n) (homed key n)))
      once
      (subst (λ (k : Segment V). Reached version k) (sym edits.new_is)
      (λ d h. version_after bs b edits.bucket inside
      (record {
        low = (let e = edits.version in let r = (table.reached s within b inside).low in omega arith);
        fresh = λ o. none_after (λ (k : Slot V). k.staged) edits.change ((table.reached s within b inside).fresh (let e = edits.version in omega arith)) (fresh (let e = edits.version in omega arith));
      }) (table.reached s within) d h (cases_eq d b)))

-- a mark leaves the entries
pub marked_same : {V : Type 0} (t : Table V) (s b : ℕ) → s < length t.segments → b < length (segment_at t.segments s).buckets → Same t (mark_at t s b)
marked_same {V} t s b within inside key =
    ap (found key) (flat_map_same entries_of no_segment t.segments s (put_bucket (segment_at t.segments s) b (marked t.version (bucket_at (segment_at t.segments s).buckets b))) within
    (marked_entries (segment_at t.segments s).buckets b t.version inside))

-- what an edit changes, in the whole table
pub edited_changes : {V : Type 0} (ss : List (Segment V)) (s b : ℕ) (x : Segment V) (out into : List (Slot V)) → s < length ss → b < length (segment_at ss s).buckets
    → Edits (segment_at ss s) x b out into → Changes (flat_map entries_of ss) (flat_map entries_of (slice_set ss s x)) out into
edited_changes {V} ss s b x out into within inside edits =
    change_in_part entries_of no_segment ss s x out into within
    (subst (λ (k : Segment V). Changes (entries_of (segment_at ss s)) (entries_of k) out into) (sym edits.new_is)
    (change_in_part (λ (k : Bucket V). k.entries) no_bucket (segment_at ss s).buckets b edits.bucket out into inside edits.change))

-- an edit of a bucket that isn't older leaves the older entries
pub edited_older : {V : Type 0} (version : ℕ) (ss : List (Segment V)) (s b : ℕ) (x : Segment V) (out into : List (Slot V)) → s < length ss → b < length (segment_at ss s).buckets
    → Edits (segment_at ss s) x b out into → version ≤ (bucket_at (segment_at ss s).buckets b).version
    → flat_map (λ (k : Segment V). older_entries version k.buckets) (slice_set ss s x) ≡ flat_map (λ (k : Segment V). older_entries version k.buckets) ss
edited_older {V} version ss s b x out into within inside edits newer =
    flat_map_same (λ (k : Segment V). older_entries version k.buckets) no_segment ss s x within
    (ap (λ (k : Segment V). older_entries version k.buckets) edits.new_is
    ∙ newer_keeps version no_bucket (segment_at ss s).buckets b edits.bucket inside newer (let e = edits.version in omega arith))
