-- The keys of a file as they are gathered, and what is read at a file's head and end.
use Rattle.std.specs.Prelude.{◌≡◌, ◌⊎◌, ℕ, ◌+◌, ◌/◌, ◌%◌, ◌<◌, Bool, true, false, List, [], ◌∷◌, ◌++◌, map, length, Option, Some, None, Result, Ok, Err}
use Rattle.std.specs.Int.{w64, to_le_bytes}
use Rattle.std.specs.HashMap.{HashMap}
use Rattle.df_model.specs.Values.{Bytes}
use Rattle.df_model.specs.Keyspace.{Keyspace}
use Rattle.df_model.specs.Spared.{Spared}
use Rattle.df_outside.specs.Disks.{Stored}
use Rattle.df_colls.specs.Roomy.{RoomyMembers, RoomyFields}
use Rattle.df_values.specs.Seen.{seen}
use Rattle.df_values.specs.declared.value.Value.{Value}
use Rattle.df_rdbcore.specs.Texts.{IsLength, IsText}
use Rattle.df_rdbcore.specs.Parts.{Both, InTurn, Pair, Entry, IsValue, IsPart, NoneTwice, firsts, members_of, fields_of}
use Rattle.df_rdbcore.specs.Files.{Spells, head, keyspace_of}
use Rattle.df_rdbcore.specs.declared.fault.LoadFault.{LoadFault}
use Rattle.df_rdbcore.specs.declared.fault.LoadFault.TheVariants as faults
use Rattle.df_rdbload.specs.Stops.{Ends, IsIn}
use Rattle.df_rdbload.specs.FileStops.{IsUnread, PartStops, SumStops, added, Agrees, digits, IsVersion, FileStops}
use Rattle.df_rdbload.specs.Sources.{Stage, IsAt, HasFile, IsCaused, Goes, Halts}

-- the keyspace that keys with their values make
abbrev pub keyspace_in : List (Bytes × Value) → Keyspace
keyspace_in entries = keyspace_of (map (λ entry. (entry.0, seen entry.1)) entries)

-- what a part adds to the keys that were there
abbrev pub Adds : Option Entry → List Entry → List (Bytes × Value) → Type 0
Adds None read keys = keyspace_of read ≡ keyspace_in keys
Adds (Some entry) read keys = (IsIn entry.0 (firsts read) → ⊥) × (keyspace_of (read ++ entry ∷ []) ≡ keyspace_in keys)

-- a part was read, or FF, behind which no part stands
abbrev pub PartRead : List Entry → List (Bytes × Value) → Bytes → Bool → Type 0
PartRead read keys form true = (entry : Option Entry) × IsPart form entry × Adds entry read keys
PartRead read keys form false = (form ≡ 0xFF ∷ []) × (keyspace_of read ≡ keyspace_in keys)

abbrev pub EntryRead : ℕ → List Entry → List (Bytes × Value) → Bytes → Unit {0} → Type 0
EntryRead kind read keys form u = (entry : Entry) × Both IsText (IsValue kind) form entry × Adds (Some entry) read keys

abbrev pub PassedRead : ℕ → Bytes → Unit {0} → Type 0
PassedRead first form u = IsPart (first ∷ form) None

abbrev pub IsZero : Bytes → Unit {0} → Type 0
IsZero form u = IsLength form 0

-- why a part isn't read
abbrev pub Refuses : ℕ → ℕ → LoadFault → Type 0
Refuses first begin fault = (IsUnread first × (fault ≡ faults.Unsupported first begin)) ⊎ ((IsUnread first → ⊥) × (fault ≡ faults.UnknownType first begin))

-- ---- all parts

-- parts that were read, no key twice, and the keys of them
pub record Gathers (keys : List (Bytes × Value)) (body : Bytes) : Type 0 where
  pub parts : List (Option Entry)
  pub parts_are : InTurn IsPart body parts
  pub once : NoneTwice (firsts (added parts))
  pub keys_are : keyspace_of (added parts) ≡ keyspace_in keys

abbrev pub IsGathered : Bytes → List (Bytes × Value) → Type 0
IsGathered body keys = Gathers keys body

abbrev pub BodyRead : {S : Type 0} → Bytes → HashMap Bytes Value S → Type 0
BodyRead {S} form keys = (body : Bytes) × Gathers keys.entries body × (form ≡ body ++ 0xFF ∷ [])

-- where reading stops behind whole parts
pub record BodyStops (size at : ℕ) (rest : Bytes) (fault : LoadFault) : Type 0 where
  pub body : Bytes
  pub behind : Bytes
  pub parts : List (Option Entry)
  pub parts_are : InTurn IsPart body parts
  pub once : NoneTwice (firsts (added parts))
  pub whole : rest ≡ body ++ behind
  pub stops : PartStops (firsts (added parts)) size (at + length body) behind fault

-- ---- values

abbrev pub IsCount : Bytes → ℕ → Type 0
IsCount form n = IsLength form n × (0 < n)

abbrev pub AreElements : ℕ → Bytes → Spared Bytes → Type 0
AreElements count form list = InTurn IsText form list.items × (length list.items ≡ count)

abbrev pub AreMembers : ℕ → Bytes → RoomyMembers → Type 0
AreMembers count form set = (texts : List Bytes) × InTurn IsText form texts × (length texts ≡ count) × NoneTwice texts × (set.members ≡ members_of texts)

abbrev pub AreFields : ℕ → Bytes → RoomyFields → Type 0
AreFields count form hash = (pairs : List Pair) × InTurn (Both IsText IsText) form pairs × (length pairs ≡ count) × NoneTwice (firsts pairs) × (hash.fields ≡ fields_of pairs)

abbrev pub IsHeld : ℕ → Bytes → Value → Type 0
IsHeld kind form value = IsValue kind form (seen value)

-- ---- a fixed text

-- it was read, or other bytes
abbrev pub IsLiteral : Bytes → Bytes → Bool → Type 0
IsLiteral text form true = form ≡ text
IsLiteral text form false = Agrees text form → ⊥

-- the file ends within it
abbrev pub LiteralStops : Bytes → (size at : ℕ) → Bytes → LoadFault → Type 0
LiteralStops text size at rest fault = Agrees text rest × (length rest < length text) × Ends size fault

-- ---- the version

abbrev pub VersionRead : Bytes → Bool → Type 0
VersionRead form true = (version : ℕ) × IsVersion version × (form ≡ digits version)
VersionRead form false = (version : ℕ) → IsVersion version → Agrees (digits version) form → ⊥

-- these are the last digits of a version that is read
abbrev pub IsLast : ℕ → ℕ → Bool → Type 0
IsLast tens ones true = (version : ℕ) × IsVersion version × (tens ≡ 48 + version / 10) × (ones ≡ 48 + version % 10)
IsLast tens ones false = (version : ℕ) → IsVersion version → tens ≡ 48 + version / 10 → ones ≡ 48 + version % 10 → ⊥

abbrev pub VersionStops : (size at : ℕ) → Bytes → LoadFault → Type 0
VersionStops size at rest fault = (version : ℕ) × IsVersion version × Agrees (digits version) rest × (length rest < 4) × Ends size fault

-- ---- the head and the end

abbrev pub HeadRead : Bytes → Unit {0} → Type 0
HeadRead form u = (version : ℕ) × IsVersion version × (form ≡ head version)

abbrev pub AreEight : Bytes → Bytes → Type 0
AreEight form bytes = (form ≡ bytes) × (length bytes ≡ 8)

abbrev pub EightStop : (size at : ℕ) → Bytes → LoadFault → Type 0
EightStop size at rest fault = (length rest < 8) × Ends size fault

-- the sum that was taken is stored, or 0, and nothing stands behind it
abbrev pub EndRead : Result (Unit {0}) LoadFault → ℕ → (file taken ahead : Bytes) → Type 0
EndRead (Ok u) computed file taken ahead = (sum : ℕ) × ((sum ≡ 0) ⊎ (sum ≡ computed)) × (ahead ≡ to_le_bytes w64 sum)
EndRead (Err fault) computed file taken ahead = Halts (SumStops computed (length file) (length taken) ahead) file fault

pub record Ended (result : Result (Unit {0}) LoadFault) (was is : Option Stored) (before now : ℕ) (old new : Stage) : Type 0 where
  pub goes : Goes was is before now old new
  pub caused : IsCaused result before now
  pub tells : (file taken ahead : Bytes) → HasFile was file → IsAt file taken ahead old → EndRead result old.cursor.sum file taken ahead

-- ---- the whole

abbrev pub FileRead : {S : Type 0} → Result (HashMap Bytes Value S) LoadFault → Bytes → Type 0
FileRead {S} (Ok keys) file = Spells file (keyspace_in keys.entries)
FileRead {S} (Err fault) file = Halts (FileStops file) file fault

pub record ReadsFile {S : Type 0} (result : Result (HashMap Bytes Value S) LoadFault) (was is : Option Stored) (before now : ℕ) (old new : Stage) : Type 0 where
  pub goes : Goes was is before now old new
  pub caused : IsCaused result before now
  pub tells : (file : Bytes) → HasFile was file → IsAt file [] file old → FileRead result file
