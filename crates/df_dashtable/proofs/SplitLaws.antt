-- A table where a segment is split, and where the directory is doubled.
use Rattle.std.proofs.Common.{◌≡◌, ◌≢◌, ℕ, zero, suc, ◌+◌, ◌-◌, ◌*◌, ◌/◌, ◌%◌, ◌^◌, ◌<◌, ◌≤◌, List, [], ◌∷◌, ◌++◌, map, length, take, drop, Bool, true, false, cond, eqb, not, ◌&&◌, refl, ap, sym, subst, ◌∙◌, arith, length-append, ◌⊎◌, inl, inr}
use Rattle.std.specs.List.{flat_map, filter}
use Rattle.std.specs.Prelude.{slice_index, slice_set}
use Rattle.std.proofs.lemmas.Bool.{cases_eq, cases_lt, eq-eqb, eqb-true}
use Rattle.std.proofs.lemmas.Nat.{pow-add}
use Rattle.std.proofs.lemmas.List.{get_or-set_other, get_or-set_same, length-set, append-nil, length-map, get_or_append_left}
use Rattle.std.proofs.lemmas.List.Elements.{filter-append}
use Rattle.std.proofs.lemmas.List.Concat.{flat_map-append}
use Rattle.std.proofs.Math.Seq.{get_or-append_seam}
use Rattle.df_model.specs.Values.{Bytes}
use Rattle.df_model.specs.Hash.{fnv64}
use Rattle.df_segment.specs.Entries.{Slot, has_key, found, goes}
use Rattle.df_segment.specs.Buckets.{Bucket, Segment, entries_of, bucket_at, no_bucket, stay_half, go_half, stay_bucket, go_bucket, IsOnce}
use Rattle.df_segment.proofs.ListLaws.{empty_of, flat_map_parted, flat_map_set, flat_map_same}
use Rattle.df_segment.proofs.ChangeLaws.{filter_parts}
use Rattle.df_segment.proofs.BucketLaws.{false_of}
use Rattle.df_segment.proofs.SplitLaws.{stay_half_found, go_half_found}
use Rattle.df_dashtable.specs.Visible.{older_entries}
use Rattle.df_dashtable.specs.Tables.{IsTable, Reached, IsCurrent, staged_in, segment_at, no_segment, directory_place, renamed}
use Rattle.df_dashtable.proofs.HashLaws.{hash_fits, place_within, further_bits, half_place}
use Rattle.df_dashtable.proofs.ShareLaws.{places_split, doubled_places}
use Rattle.df_dashtable.proofs.CutLaws.{none_older}
use Rattle.df_dashtable.proofs.OnceLaws.{key_once}

sub_step : {X : Type 0} (p q : X → Bool) (x : X) (xs : List X) (a b : Bool) → q x ≡ a → p x ≡ b
    → length (filter p (filter q xs)) ≤ length (filter p xs) → length (filter p (filter q (x ∷ xs))) ≤ length (filter p (x ∷ xs))
sub_step p q x xs true true e f h = rw e (rw f (omega arith))
sub_step p q x xs true false e f h = rw e (rw f h)
sub_step p q x xs false true e f h = rw e (rw f (omega arith))
sub_step p q x xs false false e f h = rw e (rw f h)

sub_less : {X : Type 0} (p q : X → Bool) (xs : List X) → length (filter p (filter q xs)) ≤ length (filter p xs)
sub_less p q [] = omega arith
sub_less p q (x ∷ xs) = sub_step p q x xs (q x) (p x) refl refl (sub_less p q xs)

-- a part of what has none has none
sub_none : {X : Type 0} (p q : X → Bool) (xs : List X) → filter p xs ≡ [] → filter p (filter q xs) ≡ []
sub_none p q xs none = empty_of (filter p (filter q xs)) (let h = sub_less p q xs in let e = ap length none in omega arith)

cond_none : {X : Type 0} (b : Bool) (xs : List X) → xs ≡ [] → cond b xs [] ≡ []
cond_none true xs e = e
cond_none false xs e = refl

cond_none2 : {X : Type 0} (b : Bool) (xs : List X) → xs ≡ [] → cond b [] xs ≡ []
cond_none2 true xs e = refl
cond_none2 false xs e = e

cond_most : {X : Type 0} (b : Bool) (xs : List X) (n : ℕ) → length xs ≤ n → length (cond b xs []) ≤ n
cond_most true xs n h = h
cond_most false xs n h = omega arith

cond_most2 : {X : Type 0} (b : Bool) (xs : List X) (n : ℕ) → length xs ≤ n → length (cond b [] xs) ≤ n
cond_most2 true xs n h = omega arith
cond_most2 false xs n h = h

eqb_other : (m n : ℕ) → m ≢ n → eqb m n ≡ false
eqb_other m n h = false_of (eqb m n) (λ e. h (eqb-true m n e))

-- a place of another segment keeps its name; a place of this one is renamed where its bit is set
name_other : (s new shift q old : ℕ) → old ≢ s → renamed s new shift q old ≡ old
name_other s new shift q old h = rw (eqb_other old s h) refl

name_gone : (s new shift q old : ℕ) → old ≡ s → eqb (q / 2 ^ shift % 2) 1 ≡ true → renamed s new shift q old ≡ new
name_gone s new shift q old is bit = rw (eq-eqb old s is) (rw bit refl)

name_kept : (s new shift q old : ℕ) → eqb (q / 2 ^ shift % 2) 1 ≡ false → renamed s new shift q old ≡ old
name_kept s new shift q old bit = rw bit (both (eqb old s))
  where
    both : (b : Bool) → cond (b && false) new old ≡ old
    both true = refl
    both false = refl

module _ {V : Type 0} (version depth : ℕ) (directory : List ℕ) (ss : List (Segment V)) (table : IsTable version depth directory ss) (s : ℕ) (within : s < length ss)
    (deeper : (segment_at ss s).depth < depth) where
  abbrev old : Segment V
  old = segment_at ss s

  abbrev bit : ℕ
  bit = 63 - old.depth

  abbrev split_list : List (Segment V)
  split_list = slice_set ss s (stay_half bit old) ++ go_half bit old ∷ []

  set_long : length (slice_set ss s (stay_half bit old)) ≡ length ss
  set_long = length-set ss s (stay_half bit old)

  at_new : segment_at split_list (length ss) ≡ go_half bit old
  at_new = ap (segment_at split_list) (sym set_long) ∙ get_or-append_seam (slice_set ss s (stay_half bit old)) (go_half bit old) [] no_segment

  at_old : segment_at split_list s ≡ stay_half bit old
  at_old = get_or_append_left (slice_set ss s (stay_half bit old)) (go_half bit old ∷ []) no_segment s (let e = set_long in omega arith) ∙ get_or-set_same ss s (stay_half bit old) no_segment within

  at_other : (c : ℕ) → c < length ss → c ≢ s → segment_at split_list c ≡ segment_at ss c
  at_other c w n = get_or_append_left (slice_set ss s (stay_half bit old)) (go_half bit old ∷ []) no_segment c (let e = set_long in omega arith) ∙ get_or-set_other ss s c (stay_half bit old) no_segment n

  split_long : length split_list ≡ suc (length ss)
  split_long = (let e = set_long in let f = length-append (slice_set ss s (stay_half bit old)) (go_half bit old ∷ []) in omega arith)

  -- a fact of each segment after the split, by its three kinds
  each : (P : ℕ → Segment V → Type 0) → P s (stay_half bit old) → P (length ss) (go_half bit old) → ((c : ℕ) → c < length ss → c ≢ s → P c (segment_at ss c))
      → (c : ℕ) → c < length split_list → P c (segment_at split_list c)
  each P stays goes_ rest c w = elim (cases_eq c s) as (λ _. P c (segment_at split_list c)) [
    | inl e ↦ subst (λ (k : ℕ). P k (segment_at split_list k)) (sym e) (subst (P s) (sym at_old) stays)
    | inr n ↦ elim (cases_lt c (length ss)) as (λ _. P c (segment_at split_list c)) [
      | inl b ↦ subst (P c) (sym (at_other c b n)) (rest c b n)
      | inr far ↦ subst (λ (k : ℕ). P k (segment_at split_list k)) (let e = split_long in let f : length ss ≡ c = omega arith in f) (subst (P (length ss)) (sym at_new) goes_)
    ]
  ]

  bit_is : (key : Bytes) → eqb (directory_place (fnv64 key) depth / 2 ^ (depth - 1 - old.depth) % 2) 1 ≡ goes bit key
  bit_is key = ap (λ n. eqb (n % 2) 1) (further_bits (fnv64 key) depth (depth - 1 - old.depth) bit table.deep (let d = table.deep in omega arith))

  module _ (directory' : List ℕ) (long : length directory' ≡ length directory)
      (places : (q : ℕ) → q < length directory → slice_index directory' q ≡ renamed s (length ss) (depth - 1 - old.depth) q (slice_index directory q)) where
    inside : (key : Bytes) → directory_place (fnv64 key) depth < length directory
    inside key = rw table.whole (place_within (fnv64 key) depth (hash_fits key) table.deep)

    abbrev own : Bytes → ℕ
    own key = slice_index directory (directory_place (fnv64 key) depth)

    abbrev now : Bytes → ℕ
    now key = slice_index directory' (directory_place (fnv64 key) depth)

    now_other : (key : Bytes) → own key ≢ s → now key ≡ own key
    now_other key n = places (directory_place (fnv64 key) depth) (inside key) ∙ name_other s (length ss) (depth - 1 - old.depth) (directory_place (fnv64 key) depth) (own key) n

    now_gone : (key : Bytes) → own key ≡ s → goes bit key ≡ true → now key ≡ length ss
    now_gone key e g = places (directory_place (fnv64 key) depth) (inside key) ∙ name_gone s (length ss) (depth - 1 - old.depth) (directory_place (fnv64 key) depth) (own key) e (bit_is key ∙ g)

    now_kept : (key : Bytes) → goes bit key ≡ false → now key ≡ own key
    now_kept key g = places (directory_place (fnv64 key) depth) (inside key) ∙ name_kept s (length ss) (depth - 1 - old.depth) (directory_place (fnv64 key) depth) (own key) (bit_is key ∙ g)

    none_old : (key : Bytes) → own key ≢ s → found key (entries_of old) ≡ []
    none_old key n = table.homed s key within (λ e. n (sym e))

    stay_none : (key : Bytes) → s ≢ now key → (g : Bool) → goes bit key ≡ g → ((own key ≡ s) ⊎ (own key ≢ s)) → found key (entries_of (stay_half bit old)) ≡ []
    stay_none key n true g _ = stay_half_found bit key old.buckets ∙ (rw g refl)
    stay_none key n false g (inl e) = absurd (n (sym (now_kept key g ∙ e)))
    stay_none key n false g (inr m) = stay_half_found bit key old.buckets ∙ cond_none2 (goes bit key) (found key (entries_of old)) (none_old key m)

    go_none : (key : Bytes) → length ss ≢ now key → (g : Bool) → goes bit key ≡ g → ((own key ≡ s) ⊎ (own key ≢ s)) → found key (entries_of (go_half bit old)) ≡ []
    go_none key n false g _ = go_half_found bit key old.buckets ∙ (rw g refl)
    go_none key n true g (inl e) = absurd (n (sym (now_gone key e g)))
    go_none key n true g (inr m) = go_half_found bit key old.buckets ∙ cond_none (goes bit key) (found key (entries_of old)) (none_old key m)

    other_none : (c : ℕ) (key : Bytes) → c < length ss → c ≢ s → c ≢ now key → ((own key ≡ s) ⊎ (own key ≢ s)) → found key (entries_of (segment_at ss c)) ≡ []
    other_none c key w n m (inl e) = table.homed c key w (λ f. n (f ∙ e))
    other_none c key w n m (inr o) = table.homed c key w (λ f. m (f ∙ sym (now_other key o)))

    name_within : (q : ℕ) → q < length directory → ((slice_index directory q ≡ s) ⊎ (slice_index directory q ≢ s)) → (g : Bool) → eqb (q / 2 ^ (depth - 1 - old.depth) % 2) 1 ≡ g
        → slice_index directory' q < suc (length ss)
    name_within q w (inl e) true g = (let h = places q w ∙ name_gone s (length ss) (depth - 1 - old.depth) q (slice_index directory q) e g in omega arith)
    name_within q w _ false g = (let h = places q w ∙ name_kept s (length ss) (depth - 1 - old.depth) q (slice_index directory q) g in let n = table.named q w in omega arith)
    name_within q w (inr m) true g = (let h = places q w ∙ name_other s (length ss) (depth - 1 - old.depth) q (slice_index directory q) m in let n = table.named q w in omega arith)

    bucket_of_map : (f : Bucket V → Bucket V) (bs : List (Bucket V)) (b : ℕ) → f no_bucket ≡ no_bucket → bucket_at (map f bs) b ≡ f (bucket_at bs b)
    bucket_of_map f [] b e = sym e
    bucket_of_map f (x ∷ bs) zero e = refl
    bucket_of_map f (x ∷ bs) (suc b) e = bucket_of_map f bs b e

    part_current : (f : Bucket V → Bucket V) (b : ℕ) → f no_bucket ≡ no_bucket → ((k : Bucket V) → (f k).version ≡ k.version)
        → ((k : Bucket V) → staged_in k.entries ≡ [] → staged_in (f k).entries ≡ []) → IsCurrent version (bucket_at old.buckets b) → IsCurrent version (bucket_at (map f old.buckets) b)
    part_current f b e v less r =
        subst (λ (k : Bucket V). IsCurrent version k) (sym (bucket_of_map f old.buckets b e))
        (record {
          low = (let h = v (bucket_at old.buckets b) in let l = r.low in omega arith);
          fresh = λ o. less (bucket_at old.buckets b) (r.fresh (let h = v (bucket_at old.buckets b) in omega arith));
        })

    pub split_table : IsTable version depth directory' split_list
    split_table = record {
      deep = table.deep;
      whole = long ∙ table.whole;
      named = λ q w. (let e = split_long in let n = name_within q (omega arith) (cases_eq (slice_index directory q) s) _ refl in omega arith);
      shallow = each (λ _ x. x.depth ≤ depth) (omega arith) (omega arith) (λ c w _. table.shallow c w);
      shared = (let p = places_split depth ss s (stay_half bit old) (go_half bit old) within deeper refl refl in let h = table.shared in omega arith);
      homed = λ c key w n. each (λ k x. k ≢ now key → found key (entries_of x) ≡ [])
          (λ m. stay_none key m (goes bit key) refl (cases_eq (own key) s))
          (λ m. go_none key m (goes bit key) refl (cases_eq (own key) s))
          (λ k v o m. other_none k key v o m (cases_eq (own key) s)) c w n;
      once = each (λ _ x. IsOnce x)
          (λ key. rw (stay_half_found bit key old.buckets) (cond_most2 (goes bit key) (found key (entries_of old)) 1 (table.once s within key)))
          (λ key. rw (go_half_found bit key old.buckets) (cond_most (goes bit key) (found key (entries_of old)) 1 (table.once s within key)))
          (λ c w _. table.once c w);
      reached = each (λ _ x. Reached version x)
          (λ b w. (let l = length-map old.buckets (stay_bucket bit) in
          part_current (stay_bucket bit) b refl (λ k. refl) (λ k none. sub_none (λ (e : Slot V). e.staged) (λ (e : Slot V). not (goes bit e.key)) k.entries none) (table.reached s within b (omega arith))))
          (λ b w. (let l = length-map old.buckets (go_bucket bit) in
          part_current (go_bucket bit) b refl (λ k. refl) (λ k none. sub_none (λ (e : Slot V). e.staged) (λ (e : Slot V). goes bit e.key) k.entries none) (table.reached s within b (omega arith))))
          (λ c w _. table.reached c w);
    }

  between : (a x b : List (Slot V)) → length (a ++ (x ++ b)) ≤ 1 → (a ++ b) ++ x ≡ a ++ (x ++ b)
  between [] [] b h = append-nil b
  between [] (y ∷ x) [] h = ap (λ zs. y ∷ zs) (sym (append-nil x))
  between [] (y ∷ x) (z ∷ b) h = absurd (let e = length-append (y ∷ x) (z ∷ b) in omega arith)
  between (z ∷ a) [] b h = append-nil ((z ∷ a) ++ b)
  between (z ∷ a) (y ∷ x) b h = absurd (let e = length-append (z ∷ a) ((y ∷ x) ++ b) in let f = length-append (y ∷ x) b in omega arith)

  joined : (a x b : List (Slot V)) (g : Bool) → length (a ++ (x ++ b)) ≤ 1 → (a ++ (cond g [] x ++ b)) ++ cond g x [] ≡ a ++ (x ++ b)
  joined a x b true h = between a x b h
  joined a x b false h = append-nil (a ++ (x ++ b))

  -- each key has what it had
  pub split_same : (key : Bytes) → found key (flat_map entries_of split_list) ≡ found key (flat_map entries_of ss)
  split_same key =
      let left = flat_map entries_of (take s ss) in
      let right = flat_map entries_of (drop (suc s) ss) in
      let was : found key (flat_map entries_of ss) ≡ found key left ++ (found key (entries_of old) ++ found key right) =
      ap (found key) (flat_map_parted entries_of no_segment ss s within) ∙ filter_parts (has_key key) left (entries_of old) right in
      let stays : found key (flat_map entries_of (slice_set ss s (stay_half bit old))) ≡ found key left ++ (cond (goes bit key) [] (found key (entries_of old)) ++ found key right) =
      ap (found key) (flat_map_set entries_of ss s (stay_half bit old) within)
      ∙ filter_parts (has_key key) left (entries_of (stay_half bit old)) right
      ∙ ap (λ zs. found key left ++ (zs ++ found key right)) (stay_half_found bit key old.buckets) in
      let gone : found key (flat_map entries_of (go_half bit old ∷ [])) ≡ cond (goes bit key) (found key (entries_of old)) [] =
      ap (found key) (append-nil (entries_of (go_half bit old))) ∙ go_half_found bit key old.buckets in
      ap (found key) (flat_map-append entries_of (slice_set ss s (stay_half bit old)) (go_half bit old ∷ []))
      ∙ filter-append (has_key key) (flat_map entries_of (slice_set ss s (stay_half bit old))) (flat_map entries_of (go_half bit old ∷ []))
      ∙ ap (λ zs. zs ++ found key (flat_map entries_of (go_half bit old ∷ []))) stays
      ∙ ap (λ zs. (found key left ++ (cond (goes bit key) [] (found key (entries_of old)) ++ found key right)) ++ zs) gone
      ∙ joined (found key left) (found key (entries_of old)) (found key right) (goes bit key)
      (subst (λ zs. length zs ≤ 1) was (key_once version depth directory ss table key))
      ∙ sym was

-- a directory that was doubled
pub doubled_table : {V : Type 0} (version depth : ℕ) (directory directory' : List ℕ) (ss : List (Segment V)) → IsTable version depth directory ss → depth < 20
    → length directory' ≡ 2 * length directory → ((q : ℕ) → q < 2 * length directory → slice_index directory' q ≡ slice_index directory (q / 2))
    → IsTable version (depth + 1) directory' ss
doubled_table {V} version depth directory directory' ss table low long places =
    let inside : (key : Bytes) → directory_place (fnv64 key) (depth + 1) < 2 * length directory =
    λ key. (let w = place_within (fnv64 key) (depth + 1) (hash_fits key) (omega arith) in let e = table.whole in let p : 2 ^ (depth + 1) ≡ 2 ^ depth * 2 = pow-add 2 depth 1 in omega arith) in
    record {
      deep = omega arith;
      whole = (let e = table.whole in let p : 2 ^ (depth + 1) ≡ 2 ^ depth * 2 = pow-add 2 depth 1 in omega arith);
      named = λ q w. rw (places q (omega arith)) (table.named (q / 2) (omega arith));
      shallow = λ c w. (let h = table.shallow c w in omega arith);
      shared = doubled_places depth ss table.shallow table.shared;
      homed = λ c key w n. table.homed c key w (λ e. n (e
          ∙ ap (slice_index directory) (sym (half_place (fnv64 key) depth low))
          ∙ sym (places (directory_place (fnv64 key) (depth + 1)) (inside key))));
      once = table.once;
      reached = table.reached;
    }

-- after a split of a segment without older buckets the older entries are the same
pub split_older : {V : Type 0} (version : ℕ) (ss : List (Segment V)) (s bit : ℕ) → s < length ss
    → ((b : ℕ) → b < length (segment_at ss s).buckets → version ≤ (bucket_at (segment_at ss s).buckets b).version)
    → flat_map (λ (k : Segment V). older_entries version k.buckets) (slice_set ss s (stay_half bit (segment_at ss s)) ++ go_half bit (segment_at ss s) ∷ [])
    ≡ flat_map (λ (k : Segment V). older_entries version k.buckets) ss
split_older {V} version ss s bit within newer =
    let old = segment_at ss s in
    flat_map-append (λ (k : Segment V). older_entries version k.buckets) (slice_set ss s (stay_half bit old)) (go_half bit old ∷ [])
    ∙ ap (λ zs. flat_map (λ (k : Segment V). older_entries version k.buckets) (slice_set ss s (stay_half bit old)) ++ zs) (append-nil (older_entries version (map (go_bucket bit) old.buckets)) ∙ mapped_none (go_bucket bit) (λ k. refl))
    ∙ append-nil (flat_map (λ (k : Segment V). older_entries version k.buckets) (slice_set ss s (stay_half bit old)))
    ∙ flat_map_same (λ (k : Segment V). older_entries version k.buckets) no_segment ss s (stay_half bit old) within
    (mapped_none (stay_bucket bit) (λ k. refl) ∙ sym (none_older version no_bucket old.buckets newer))
  where
    at_map : (f : Bucket V → Bucket V) (bs : List (Bucket V)) (b : ℕ) → b < length bs → ((k : Bucket V) → (f k).version ≡ k.version) → (bucket_at (map f bs) b).version ≡ (bucket_at bs b).version
    at_map f [] b w v = absurd (omega arith)
    at_map f (x ∷ bs) zero w v = v x
    at_map f (x ∷ bs) (suc b) w v = at_map f bs b (omega arith) v

    mapped_none : (f : Bucket V → Bucket V) → ((k : Bucket V) → (f k).version ≡ k.version) → older_entries version (map f (segment_at ss s).buckets) ≡ []
    mapped_none f v = none_older version no_bucket (map f (segment_at ss s).buckets)
        (λ b w. let l = length-map (segment_at ss s).buckets f in
        let e = at_map f (segment_at ss s).buckets b (omega arith) v in let n = newer b (omega arith) in omega arith)
