-- What contracts see of a table.
use Rattle.std.specs.Prelude.{◌≡◌, ◌≢◌, ℕ, ◌+◌, ◌-◌, ◌/◌, ◌%◌, ◌^◌, ◌<◌, ◌≤◌, List, [], ◌∷◌, ◌++◌, Bool, true, cond, eqb, not, ◌&&◌, length, map, slice_index_or, slice_index, slice_set, Option, Some, None}
use Rattle.std.specs.List.{flat_map, filter}
use Rattle.std.specs.Str.{bytes_eq}
use Rattle.df_model.specs.Values.{Bytes}
use Rattle.df_model.specs.Hash.{fnv64}
use Rattle.df_segment.specs.Entries.{Slot, found}
use Rattle.df_segment.specs.Buckets.{Bucket, Segment, entries_of, bucket_at, put_bucket, marked, staged_only, Edits, IsOnce, Stands, home_of, after, stay_half, go_half}
use Rattle.df_dashtable.specs.declared.table.Spot.{Spot}
use Rattle.df_dashtable.specs.Visible.{visible_entries, older_entries}
use Rattle.df_dashtable.specs.Moves.{Moves}

pub record Table (V : Type 0) : Type 0 where
  pub version : ℕ
  pub depth : ℕ
  pub directory : List ℕ
  pub segments : List (Segment V)

-- the place of a hash in a directory of this depth: its first bits
abbrev pub directory_place : ℕ → ℕ → ℕ
directory_place hash depth = hash / 2 ^ (64 - depth)

-- what a place names after a split of segment s: a place with this bit names the new segment
abbrev pub renamed : ℕ → ℕ → ℕ → ℕ → ℕ → ℕ
renamed s new shift place old = cond (eqb old s && eqb (place / 2 ^ shift % 2) 1) new old

module _ {V : Type 0} where
  abbrev pub no_segment : Segment V
  no_segment = record { depth = 0; buckets = [] }

  abbrev pub segment_at : List (Segment V) → ℕ → Segment V
  segment_at ss s = slice_index_or ss s no_segment

  -- all entries, segment by segment
  abbrev pub entries : Table V → List (Slot V)
  entries t = flat_map entries_of t.segments

  abbrev pub visible : Table V → List (Bytes × V)
  visible t = flat_map (λ s. visible_entries s.buckets) t.segments

  -- what waits in the older buckets
  abbrev pub older : Table V → List (Bytes × V)
  older t = flat_map (λ s. older_entries t.version s.buckets) t.segments

  abbrev pub staged_in : List (Slot V) → List (Slot V)
  staged_in es = filter (λ e. e.staged) es

  abbrev pub shown_in : List (Slot V) → List (Slot V)
  shown_in es = filter (λ e. not e.staged) es

  -- the segment of a hash
  abbrev pub segment_of : Table V → ℕ → ℕ
  segment_of t hash = slice_index t.directory (directory_place hash t.depth)

  abbrev pub mark_at : Table V → ℕ → ℕ → Table V
  mark_at t s b = record t { segments = slice_set t.segments s (put_bucket (segment_at t.segments s) b (marked t.version (bucket_at (segment_at t.segments s).buckets b))) }

  -- each key has the entries that it had
  abbrev pub Same : Table V → Table V → Type 0
  Same old new = (key : Bytes) → found key (entries new) ≡ found key (entries old)

  -- a key has these entries now, and each other key those that it had
  abbrev pub Puts : Bytes → List (Slot V) → Table V → Table V → Type 0
  Puts own es old new = (key : Bytes) → found key (entries new) ≡ cond (bytes_eq own key) es (found key (entries old))

  -- an entry is at this spot
  abbrev pub IsSpotIn : List (Segment V) → Spot → Type 0
  IsSpotIn ss at = (at.segment < length ss) × ((at.place.bucket < length (segment_at ss at.segment).buckets) × (at.place.slot < length (bucket_at (segment_at ss at.segment).buckets at.place.bucket).entries))

  abbrev pub IsSpot : Table V → Spot → Type 0
  IsSpot t at = IsSpotIn t.segments at

  -- the entry there
  abbrev pub slot_in : List (Segment V) → Spot → Slot V → Slot V
  slot_in ss at d = slice_index_or (bucket_at (segment_at ss at.segment).buckets at.place.bucket).entries at.place.slot d

  abbrev pub slot_at : Table V → Spot → Slot V → Slot V
  slot_at t at d = slot_in t.segments at d

  -- the key has an entry at this spot
  abbrev pub StandsAt : Table V → Bytes → Spot → Type 0
  StandsAt t key at = (at.segment < length t.segments) × Stands (segment_at t.segments at.segment) key at.place

  -- the entry at this spot is all that the key has
  abbrev pub HasAt : Table V → Bytes → Spot → Type 0
  HasAt t key at = (d : Slot V) → found key (entries t) ≡ slot_at t at d ∷ []

  -- the key has a staged entry
  abbrev pub IsStaged : List (Slot V) → Type 0
  IsStaged es = (e : Slot V) × ((es ≡ e ∷ []) × (e.staged ≡ true))

  -- a bucket is not older
  abbrev pub IsNewer : Table V → ℕ → ℕ → Type 0
  IsNewer t s b = t.version ≤ (bucket_at (segment_at t.segments s).buckets b).version

  -- a bucket where a key of this hash may stand, with no room in those that come before it: home, next, the stash buckets
  pub record IsFirstOf (s : Segment V) (hash b : ℕ) : Type 0 where
    pub near : b < 56 → b ≢ home_of hash → b ≡ after (home_of hash)
    pub home : b ≢ home_of hash → 14 ≤ length (bucket_at s.buckets (home_of hash)).entries
    pub next : 56 ≤ b → 14 ≤ length (bucket_at s.buckets (after (home_of hash))).entries
    pub stash : (c : ℕ) → 56 ≤ c → c < b → 14 ≤ length (bucket_at s.buckets c).entries

  -- what is seen of a key's entries
  abbrev pub shown_value : List (Slot V) → Option V
  shown_value [] = None
  shown_value (e ∷ _) = cond e.staged None (Some e.value)

  -- a segment with one more empty bucket
  abbrev pub stashed : ℕ → Segment V → Segment V
  stashed version x = record x { buckets = x.buckets ++ record { version = version; entries = [] } ∷ [] }

  -- a segment with what is staged alone
  abbrev pub cleared : Segment V → Segment V
  cleared x = record x { buckets = map staged_only x.buckets }

  -- how many places of a directory of this depth have the keys of these segments
  abbrev pub places_of : ℕ → List (Segment V) → ℕ
  places_of depth [] = 0
  places_of depth (s ∷ ss) = 2 ^ (depth - s.depth) + places_of depth ss

  -- one bucket of one segment is edited
  pub record EditsIn (ss ss' : List (Segment V)) (s b : ℕ) (out into : List (Slot V)) : Type 0 where
    pub segment : Segment V
    pub new_is : ss' ≡ slice_set ss s segment
    pub edits : Edits (segment_at ss s) segment b out into
    pub once : IsOnce segment

  -- segment s is split: what goes stands at the end, and the places of its keys name it
  pub record Divides (depth s : ℕ) (ss ss' : List (Segment V)) (directory directory' : List ℕ) : Type 0 where
    pub segments : ss' ≡ slice_set ss s (stay_half (63 - (segment_at ss s).depth) (segment_at ss s)) ++ go_half (63 - (segment_at ss s).depth) (segment_at ss s) ∷ []
    pub long : length directory' ≡ length directory
    pub places : (q : ℕ) → q < length directory → slice_index directory' q ≡ renamed s (length ss) (depth - 1 - (segment_at ss s).depth) q (slice_index directory q)

  -- buckets of segment s were marked, and nothing else
  pub record Touches (s : ℕ) (old new : Table V) : Type 0 where
    pub same : Same old new
    pub version : new.version ≡ old.version
    pub depth : new.depth ≡ old.depth
    pub directory : new.directory ≡ old.directory
    pub long : length new.segments ≡ length old.segments
    pub own_depth : (segment_at new.segments s).depth ≡ (segment_at old.segments s).depth
    pub count : (c : ℕ) → length (segment_at new.segments c).buckets ≡ length (segment_at old.segments c).buckets
    pub newer : (c b : ℕ) → IsNewer old c b → IsNewer new c b

  -- no bucket is older
  abbrev pub IsAllNewer : Table V → Type 0
  IsAllNewer t = (s b : ℕ) → s < length t.segments → b < length (segment_at t.segments s).buckets → IsNewer t s b

  -- nothing is staged in an older bucket
  abbrev pub IsFresh : Table V → Type 0
  IsFresh t = (s b : ℕ) → s < length t.segments → b < length (segment_at t.segments s).buckets
      → (bucket_at (segment_at t.segments s).buckets b).version < t.version → staged_in (bucket_at (segment_at t.segments s).buckets b).entries ≡ []

  -- a bucket is not above this version, and has nothing staged if it is older
  pub record IsCurrent (version : ℕ) (b : Bucket V) : Type 0 where
    pub low : b.version ≤ version
    pub fresh : b.version < version → staged_in b.entries ≡ []

  abbrev pub Reached : ℕ → Segment V → Type 0
  Reached version s = (b : ℕ) → b < length s.buckets → IsCurrent version (bucket_at s.buckets b)

  -- each segment is named by the places of its keys alone; each key stands once
  pub record IsTable (version depth : ℕ) (directory : List ℕ) (ss : List (Segment V)) : Type 0 where
    pub deep : depth ≤ 20
    pub whole : length directory ≡ 2 ^ depth
    pub named : (q : ℕ) → q < length directory → slice_index directory q < length ss
    pub shallow : (s : ℕ) → s < length ss → (segment_at ss s).depth ≤ depth
    pub shared : places_of depth ss ≤ 2 ^ depth
    pub homed : (s : ℕ) (key : Bytes) → s < length ss → s ≢ slice_index directory (directory_place (fnv64 key) depth) → found key (entries_of (segment_at ss s)) ≡ []
    pub once : (s : ℕ) → s < length ss → IsOnce (segment_at ss s)
    pub reached : (s : ℕ) → s < length ss → Reached version (segment_at ss s)

  -- the counts of the visible and of the staged entries
  pub record IsCounted (len staged : ℕ) (ss : List (Segment V)) : Type 0 where
    pub seen : len ≡ length (shown_in (flat_map entries_of ss))
    pub waits : staged ≡ length (staged_in (flat_map entries_of ss))
    pub fits : len + staged ≤ 18446744073709551615

  -- what went to a hook that takes entries is what left the older buckets
  pub record Sends (takes : Bool) (holds holds' : List (Bytes × V) → Type 0) (t t' : Table V) : Type 0 where
    pub moved : List (Bytes × V)
    pub sent : takes ≡ true → (es : List (Bytes × V)) → holds es → holds' (es ++ moved)
    pub moves : takes ≡ true → Moves (older t) moved (older t')
