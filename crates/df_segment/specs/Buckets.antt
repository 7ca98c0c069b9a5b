-- What contracts see of buckets and segments.
use Rattle.std.specs.Prelude.{◌≡◌, ◌≢◌, ℕ, ◌+◌, ◌/◌, ◌%◌, ◌<◌, ◌≤◌, List, [], ◌∷◌, ◌++◌, Bool, true, false, cond, eqb, not, length, map, slice_index, slice_index_or, slice_set, vec_capacity}
use Rattle.std.specs.List.{filter, flat_map, remove}
use Rattle.df_model.specs.Values.{Bytes}
use Rattle.df_model.specs.Hash.{fnv64}
use Rattle.df_segment.specs.declared.entry.Entry.{Entry}
use Rattle.df_segment.specs.declared.segment.Place.{Place}
use Rattle.df_segment.specs.declared.bucket.Parting.{Parting}
use Rattle.df_segment.specs.Entries.{Slot, tag_of, goes, has_key, found, alter, shown}
use Rattle.df_segment.specs.Changes.{Changes}

pub record Bucket (V : Type 0) : Type 0 where
  pub version : ℕ
  pub entries : List (Slot V)

pub record Segment (V : Type 0) : Type 0 where
  pub depth : ℕ
  pub buckets : List (Bucket V)

-- the bucket in which a key of this hash stands, if there is room
abbrev pub home_of : ℕ → ℕ
home_of hash = hash / 256 % 56

-- the bucket after it
abbrev pub after : ℕ → ℕ
after home = cond (eqb home 55) 0 (home + 1)

-- each home that was flagged is
abbrev pub SpillsMore : List Bool → List Bool → Type 0
SpillsMore old new = (home : ℕ) → slice_index_or old home false ≡ true → slice_index_or new home false ≡ true

module _ {V : Type 0} where
  -- each tag is that of its entry's key
  pub record TagsAgree (tags : List ℕ) (es : List (Entry V)) : Type 0 where
    pub few : length es ≤ 14
    pub agree : (i : ℕ) (d : Entry V) → i < length es → slice_index tags i ≡ tag_of (slice_index_or es i d).key

  -- which of a bucket's entries go at a split by this bit, and that there is room for them
  pub record IsParting (bit : ℕ) (es : List (Slot V)) (going : List Bool) (room : ℕ) : Type 0 where
    pub marks : (i : ℕ) (d : Slot V) → i < length es → slice_index_or going i false ≡ goes bit (slice_index_or es i d).key
    pub enough : length (filter (λ e. goes bit e.key) es) ≤ room

  -- the key stands at this place
  abbrev pub IsAt : List (Slot V) → ℕ → Bytes → Type 0
  IsAt es i key = (i < length es) × ((d : Slot V) → has_key key (slice_index_or es i d) ≡ true)

  -- what stays of a bucket's entries, and what goes
  abbrev pub stays_in : ℕ → List (Slot V) → List (Slot V)
  stays_in bit es = filter (λ e. not (goes bit e.key)) es

  abbrev pub goes_in : ℕ → List (Slot V) → List (Slot V)
  goes_in bit es = filter (λ e. goes bit e.key) es

  abbrev pub no_bucket : Bucket V
  no_bucket = record { version = 0; entries = [] }

  abbrev pub bucket_at : List (Bucket V) → ℕ → Bucket V
  bucket_at bs b = slice_index_or bs b no_bucket

  -- the same of each bucket of a row
  pub record IsPartings (bit : ℕ) (bs : List (Bucket V)) (ps : List (Parting V)) : Type 0 where
    pub many : length ps ≡ length bs
    pub bits : (b : ℕ) (p : Parting V) → b < length bs → (slice_index_or ps b p).bit ≡ bit
    pub fits : (b : ℕ) (p : Parting V) → b < length bs → IsParting bit (bucket_at bs b).entries (slice_index_or ps b p).going (vec_capacity (slice_index_or ps b p).room)
    pub empty : (b : ℕ) (p : Parting V) → b < length bs → (slice_index_or ps b p).room.items ≡ []

  abbrev pub entries_in : List (Bucket V) → List (Slot V)
  entries_in bs = flat_map (λ b. b.entries) bs

  abbrev pub entries_of : Segment V → List (Slot V)
  entries_of s = entries_in s.buckets

  abbrev pub put_bucket : Segment V → ℕ → Bucket V → Segment V
  put_bucket s b bucket = record s { buckets = slice_set s.buckets b bucket }

  abbrev pub marked : ℕ → Bucket V → Bucket V
  marked version b = record b { version = version }

  -- a bucket with an entry behind the others, without one, and with one made visible
  abbrev pub added : Slot V → Bucket V → Bucket V
  added e b = record b { entries = b.entries ++ e ∷ [] }

  abbrev pub without : ℕ → Bucket V → Bucket V
  without i b = record b { entries = remove b.entries i }

  abbrev pub showing : ℕ → Bucket V → Bucket V
  showing i b = record b { entries = alter shown i b.entries }

  -- a bucket with what is staged alone
  abbrev pub staged_only : Bucket V → Bucket V
  staged_only b = record b { entries = filter (λ e. e.staged) b.entries }

  -- the two halves of a split
  abbrev pub stay_bucket : ℕ → Bucket V → Bucket V
  stay_bucket bit b = record b { entries = stays_in bit b.entries }

  abbrev pub go_bucket : ℕ → Bucket V → Bucket V
  go_bucket bit b = record b { entries = goes_in bit b.entries }

  -- what stays of a segment in a split by this bit, and what goes
  abbrev pub stay_half : ℕ → Segment V → Segment V
  stay_half bit s = record { depth = s.depth + 1; buckets = map (stay_bucket bit) s.buckets }

  abbrev pub go_half : ℕ → Segment V → Segment V
  go_half bit s = record { depth = s.depth + 1; buckets = map (go_bucket bit) s.buckets }

  -- a key is in its home bucket, in the next one, or, where its home has spilled, in a stash bucket
  pub record IsSound (spilled : List Bool) (bs : List (Bucket V)) : Type 0 where
    pub enough : 60 ≤ length bs
    pub near : (b : ℕ) (key : Bytes) → b < 56 → b ≢ home_of (fnv64 key) → b ≢ after (home_of (fnv64 key)) → found key (bucket_at bs b).entries ≡ []
    pub spills : (b : ℕ) (key : Bytes) → 56 ≤ b → b < length bs → slice_index_or spilled (home_of (fnv64 key)) false ≡ false → found key (bucket_at bs b).entries ≡ []
    pub once : (key : Bytes) → length (found key (entries_in bs)) ≤ 1

  -- the key has an entry at this place
  abbrev pub Stands : Segment V → Bytes → Place → Type 0
  Stands s key p = (p.bucket < length s.buckets) × IsAt (bucket_at s.buckets p.bucket).entries p.slot key

  -- a key of this hash may go to this bucket
  pub record IsRoom (s : Segment V) (hash b : ℕ) : Type 0 where
    pub within : b < length s.buckets
    pub free : length (bucket_at s.buckets b).entries < 14
    pub near : b < 56 → b ≢ home_of hash → b ≡ after (home_of hash)

  -- the first of home, next and the stash buckets that has room
  pub record IsFirst (s : Segment V) (hash b : ℕ) : Type 0 where
    pub room : IsRoom s hash b
    pub home : b ≢ home_of hash → 14 ≤ length (bucket_at s.buckets (home_of hash)).entries
    pub next : 56 ≤ b → 14 ≤ length (bucket_at s.buckets (after (home_of hash))).entries
    pub stash : (c : ℕ) → 56 ≤ c → c < b → 14 ≤ length (bucket_at s.buckets c).entries

  -- home, next and all stash buckets are full
  pub record IsFull (s : Segment V) (hash : ℕ) : Type 0 where
    pub home : 14 ≤ length (bucket_at s.buckets (home_of hash)).entries
    pub next : 14 ≤ length (bucket_at s.buckets (after (home_of hash))).entries
    pub stash : (b : ℕ) → 56 ≤ b → b < length s.buckets → 14 ≤ length (bucket_at s.buckets b).entries

  -- one bucket has changed, in one part of its entries, and not in its version
  pub record Edits (old new : Segment V) (b : ℕ) (out into : List (Slot V)) : Type 0 where
    pub bucket : Bucket V
    pub new_is : new ≡ put_bucket old b bucket
    pub version : bucket.version ≡ (bucket_at old.buckets b).version
    pub change : Changes (bucket_at old.buckets b).entries bucket.entries out into

  abbrev pub IsOnce : Segment V → Type 0
  IsOnce s = (key : Bytes) → length (found key (entries_of s)) ≤ 1
