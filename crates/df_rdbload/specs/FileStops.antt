-- Where reading a file stops: at its head, in a part, or at its end.
use Rattle.std.specs.Prelude.{◌≡◌, ◌≢◌, ◌⊎◌, ℕ, ◌+◌, ◌/◌, ◌%◌, ◌<◌, ◌≤◌, true, List, [], ◌∷◌, ◌++◌, length, take, codes, nat_eq, Option}
use Rattle.std.specs.Int.{w64, from_le_bytes}
use Rattle.std.specs.List.{filter_map, list_any}
use Rattle.df_model.specs.Values.{Bytes}
use Rattle.df_rdbcore.specs.Crc.{crc}
use Rattle.df_rdbcore.specs.Texts.{IsLength, IsText}
use Rattle.df_rdbcore.specs.Parts.{Entry, InTurn, IsPart, NoneTwice, firsts}
use Rattle.df_rdbcore.specs.Files.{head, summed}
use Rattle.df_rdbcore.specs.Reading.{place_of}
use Rattle.df_rdbcore.specs.declared.fault.LoadFault.{LoadFault}
use Rattle.df_rdbcore.specs.declared.fault.LoadFault.TheVariants as faults
use Rattle.df_rdbcore.specs.declared.fault.PartFault.TheVariants as part
use Rattle.df_rdbcore.specs.declared.fault.Twice.TheVariants as twice
use Rattle.df_rdbload.specs.Stops.{Ends, LengthStops, TextStops, BothStops, IsIn, Repeats, ValueStops}

-- ---- parts

-- a part with this first byte is a key and what it holds
abbrev pub HoldsKey : ℕ → Type 0
HoldsKey b = (b ≡ 0) ⊎ ((b ≡ 1) ⊎ ((b ≡ 2) ⊎ (b ≡ 4)))

-- the first bytes of parts that the format knows and that aren't read: modules, streams, compact forms, functions, and
-- what tells of expiry and eviction
abbrev pub unread : List ℕ
unread =
    3 ∷ 5 ∷ 6 ∷ 7 ∷ 9 ∷ 10 ∷ 11 ∷ 12 ∷ 13 ∷ 14 ∷ 15 ∷ 16 ∷ 17 ∷ 18 ∷ 19 ∷ 20 ∷ 21 ∷ 22 ∷ 23 ∷ 24 ∷ 25
    ∷ 244 ∷ 245 ∷ 246 ∷ 247 ∷ 248 ∷ 249 ∷ 252 ∷ 253 ∷ []

abbrev pub IsUnread : ℕ → Type 0
IsUnread b = list_any (λ code. nat_eq code b) unread ≡ true

-- auxiliary fields, hints on sizes, the number of a database, and the end
abbrev pub IsMark : ℕ → Type 0
IsMark b = (b ≡ 250) ⊎ ((b ≡ 251) ⊎ ((b ≡ 254) ⊎ (b ≡ 255)))

-- where the number of a database is needed, of a part that begins at this place; it is to be 0
pub data DatabaseStops (begin size at : ℕ) (rest : Bytes) (fault : LoadFault) : Type 0 where
  Number : LengthStops size at rest fault → DatabaseStops begin size at rest fault
  Other : (form behind : Bytes) (n : ℕ) → IsLength form n → rest ≡ form ++ behind → n ≢ 0 → fault ≡ faults.Unsupported 0xFE begin → DatabaseStops begin size at rest fault

-- where a part goes on behind its first byte, which begins at this place and holds no key
pub data PassedStops (first begin size at : ℕ) (rest : Bytes) (fault : LoadFault) : Type 0 where
  Auxiliary : first ≡ 0xFA → BothStops IsText TextStops TextStops size at rest fault → PassedStops first begin size at rest fault
  Sizes : first ≡ 0xFB → BothStops IsLength LengthStops LengthStops size at rest fault → PassedStops first begin size at rest fault
  Database : first ≡ 0xFE → DatabaseStops begin size at rest fault → PassedStops first begin size at rest fault
  Unread : IsUnread first → fault ≡ faults.Unsupported first begin → PassedStops first begin size at rest fault
  Unknown : (HoldsKey first → ⊥) → (IsUnread first → ⊥) → (IsMark first → ⊥) → fault ≡ faults.UnknownType first begin → PassedStops first begin size at rest fault

-- where a key and its value are needed, behind these keys, of a part with this first byte that begins at this place; a key
-- that was there is told before its value is read
pub data EntryStops (keys : List Bytes) (kind begin size at : ℕ) (rest : Bytes) (fault : LoadFault) : Type 0 where
  Key : TextStops size at rest fault → EntryStops keys kind begin size at rest fault
  Again : Repeats keys rest → fault ≡ faults.Duplicate twice.Key (place_of at) → EntryStops keys kind begin size at rest fault
  Held : (form behind key : Bytes) → IsText form key → (IsIn key keys → ⊥) → rest ≡ form ++ behind → ValueStops kind begin size (at + length form) behind fault → EntryStops keys kind begin size at rest fault

-- where a part is needed, behind these keys
pub data PartStops (keys : List Bytes) (size at : ℕ) (rest : Bytes) (fault : LoadFault) : Type 0 where
  Cut : rest ≡ [] → Ends size fault → PartStops keys size at rest fault
  Holds : (kind : ℕ) (more : Bytes) → HoldsKey kind → rest ≡ kind ∷ more → EntryStops keys kind (place_of at) size (at + 1) more fault → PartStops keys size at rest fault
  Passed : (first : ℕ) (more : Bytes) → rest ≡ first ∷ more → PassedStops first (place_of at) size (at + 1) more fault → PartStops keys size at rest fault

-- ---- the end

-- where the sum is needed that belongs to bytes with this one, behind FF
pub data SumStops (computed size at : ℕ) (rest : Bytes) (fault : LoadFault) : Type 0 where
  Cut : length rest < 8 → Ends size fault → SumStops computed size at rest fault
  Wrong : (stored : ℕ) → 8 ≤ length rest → stored ≡ from_le_bytes w64 (take 8 rest) → stored ≢ 0 → stored ≢ computed → fault ≡ faults.BadChecksum stored computed (place_of at) → SumStops computed size at rest fault
  -- the sum is looked at before what stands behind it
  After : (stored : ℕ) → 8 < length rest → stored ≡ from_le_bytes w64 (take 8 rest) → (stored ≡ 0) ⊎ (stored ≡ computed) → fault ≡ faults.BadPart part.After (place_of (at + 8)) → SumStops computed size at rest fault

-- ---- the whole

-- the entries that parts add
abbrev pub added : List (Option Entry) → List Entry
added parts = filter_map (λ entry. entry) parts

-- as far as both go, they are alike
abbrev pub Agrees : Bytes → Bytes → Type 0
Agrees [] bytes = Unit {0}
Agrees (x ∷ wanted) [] = Unit {0}
Agrees (x ∷ wanted) (b ∷ bytes) = (x ≡ b) × Agrees wanted bytes

abbrev pub digits : ℕ → Bytes
digits version = 48 ∷ 48 ∷ (48 + version / 10) ∷ (48 + version % 10) ∷ []

-- a version that is read
abbrev pub IsVersion : ℕ → Type 0
IsVersion version = (5 ≤ version) × (version ≤ 12)

-- a wrong byte among the first nine is told before the file's end is, and one of the magic before one of the version
pub data HeadStops (size at : ℕ) (rest : Bytes) (fault : LoadFault) : Type 0 where
  Magic : (Agrees (codes "REDIS") rest → ⊥) → fault ≡ faults.BadMagic → HeadStops size at rest fault
  Version : Agrees (codes "REDIS") rest → ((version : ℕ) → IsVersion version → Agrees (head version) rest → ⊥) → fault ≡ faults.BadVersion → HeadStops size at rest fault
  Cut : (version : ℕ) → IsVersion version → Agrees (head version) rest → length rest < 9 → Ends size fault → HeadStops size at rest fault

-- the head was read and whole parts, no key twice
pub record Begun (bytes : Bytes) : Type 0 where
  pub version : ℕ
  pub is_version : IsVersion version
  pub body : Bytes
  pub parts : List (Option Entry)
  pub parts_are : InTurn IsPart body parts
  pub once : NoneTwice (firsts (added parts))
  pub rest : Bytes
  pub whole : bytes ≡ head version ++ (body ++ rest)

-- these bytes are no file, since reading them stops so
pub data FileStops (bytes : Bytes) (fault : LoadFault) : Type 0 where
  Head : HeadStops (length bytes) 0 bytes fault → FileStops bytes fault
  Part : (b : Begun bytes) → PartStops (firsts (added b.parts)) (length bytes) (9 + length b.body) b.rest fault → FileStops bytes fault
  End : (b : Begun bytes) (more : Bytes) → b.rest ≡ 0xFF ∷ more → SumStops (crc (summed b.version b.body)) (length bytes) (10 + length b.body) more fault → FileStops bytes fault
