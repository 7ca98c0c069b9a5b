-- A file that is read in pieces: how far reading has come, and what a call came to.
use Rattle.std.specs.Prelude.{min, ◌≡◌, ℕ, ◌+◌, ◌-◌, ◌^◌, ◌<◌, ◌≤◌, ◌⊎◌, Bool, true, false, cond, [], ◌∷◌, ◌++◌, length, drop, Option, Some, None, Result, Ok, Err}
use Rattle.df_model.specs.Values.{Bytes}
use Rattle.df_outside.specs.Disks.{Stored, Told, Holds, IsPast}
use Rattle.df_outside.specs.Faults.{Rose}
use Rattle.df_rdbcore.specs.Crc.{crc}
use Rattle.df_rdbcore.specs.Reading.{Stand, place_of}
use Rattle.df_rdbcore.specs.declared.fault.LoadFault.{LoadFault}
use Rattle.df_rdbcore.specs.declared.fault.LoadFault.TheVariants as faults
use Rattle.df_rdbload.specs.Stops.{Stops, Ends}
use Rattle.df_rdbload.specs.declared.source.Piece.{Piece}
use Rattle.df_rdbload.specs.declared.source.Piece.TheVariants as piece

-- ---- how far reading has come

-- what was read and isn't taken, with the place and the sum of what was taken; the place that is read next; whether the
-- file's end was seen, and whether the disk said that there is no file
pub record Stage : Type 0 where
  pub cursor : Stand
  pub next : ℕ
  pub ended : Bool
  pub missing : Bool

abbrev pub start : Stage
start = record { cursor = record { rest = []; place = 0; sum = 0 }; next = 0; ended = false; missing = false }

-- of the file these bytes are taken, and those stand ahead
pub record IsAt (file taken ahead : Bytes) (stage : Stage) : Type 0 where
  pub whole : file ≡ taken ++ ahead
  pub left : stage.cursor.rest ++ drop stage.next file ≡ ahead
  pub within : stage.next ≤ length file
  pub place : stage.cursor.place ≡ place_of (length taken)
  pub sum : stage.cursor.sum ≡ crc taken
  pub end : stage.ended ≡ true → length file ≤ stage.next

-- how many bytes can still be taken, at most
abbrev pub room : Stage → ℕ
room stage = (2 ^ 64 - stage.next) + length stage.cursor.rest

-- how often can still be read, at most
abbrev pub reads_left : Stage → ℕ
reads_left stage = (2 ^ 64 - stage.next) + cond stage.ended 0 1

-- ---- the disk

-- the disk tells that the file has these bytes
abbrev pub HasFile : Option Stored → Bytes → Type 0
HasFile None file = ⊥
HasFile (Some stored) file = stored.file ≡ Some file

-- where the disk tells the file, this holds of it
abbrev pub WhereTold : (Option Bytes → Type 0) → Option Stored → Type 0
WhereTold P None = Unit {0}
WhereTold P (Some stored) = P stored.file

abbrev pub HasSome : Option Stored → Type 0
HasSome stored = WhereTold (λ file. (bytes : Bytes) × (file ≡ Some bytes)) stored

abbrev pub HasNone : Option Stored → Type 0
HasNone stored = WhereTold (λ file. file ≡ None) stored

-- a disk can't be asked for a place past 2^64 - 1
abbrev pub IsBeyond : Bytes → Type 0
IsBeyond file = 2 ^ 64 ≤ length file

-- the disk's count of faults didn't fall, up to its last value
abbrev pub StillCounts : ℕ → ℕ → Type 0
StillCounts before now = min before (2 ^ 64 - 1) ≤ now

-- a read fault is one of the disk
abbrev pub HasCause : LoadFault → ℕ → ℕ → Type 0
HasCause (faults.ReadFault at) before now = Rose before now
HasCause faults.BadMagic before now = Unit {0}
HasCause faults.BadVersion before now = Unit {0}
HasCause (faults.Truncated at) before now = Unit {0}
HasCause (faults.BadLength at) before now = Unit {0}
HasCause (faults.Unsupported code at) before now = Unit {0}
HasCause (faults.UnknownType code at) before now = Unit {0}
HasCause (faults.BadPart kind at) before now = Unit {0}
HasCause (faults.Duplicate kind at) before now = Unit {0}
HasCause (faults.BadChecksum stored computed at) before now = Unit {0}
HasCause faults.NoMemory before now = Unit {0}

abbrev pub IsCaused : {A : Type 0} → Result A LoadFault → ℕ → ℕ → Type 0
IsCaused {A} (Ok a) before now = Unit {0}
IsCaused {A} (Err fault) before now = HasCause fault before now

-- the disk is as it was, its count of faults doesn't fall, and what is read is taken once; the disk says that there is no
-- file only where it has none
pub record Goes (was is : Option Stored) (before now : ℕ) (old new : Stage) : Type 0 where
  pub kept : Told was is (λ a b. b ≡ a)
  pub rises : StillCounts before now
  pub runs : room new ≤ room old
  pub missing : new.missing ≡ true → (old.missing ≡ true) ⊎ HasNone is

-- ---- what a call came to

-- a whole form stands ahead, and is taken
pub record Whole {A : Type 0} (P : Bytes → A → Type 0) (a : A) (file taken ahead : Bytes) (new : Stage) : Type 0 where
  pub form : Bytes
  pub behind : Bytes
  pub form_is : P form a
  pub front : ahead ≡ form ++ behind
  pub at : IsAt file (taken ++ form) behind new

-- a fault of the file stands where it must; a file that is longer than a disk can be asked for may seem to end too early
abbrev pub Halts : (LoadFault → Type 0) → Bytes → LoadFault → Type 0
Halts S file (faults.ReadFault at) = Unit {0}
Halts S file faults.NoMemory = Unit {0}
Halts S file (faults.Truncated at) = S (faults.Truncated at) ⊎ IsBeyond file
Halts S file faults.BadMagic = S faults.BadMagic
Halts S file faults.BadVersion = S faults.BadVersion
Halts S file (faults.BadLength at) = S (faults.BadLength at)
Halts S file (faults.Unsupported code at) = S (faults.Unsupported code at)
Halts S file (faults.UnknownType code at) = S (faults.UnknownType code at)
Halts S file (faults.BadPart kind at) = S (faults.BadPart kind at)
Halts S file (faults.Duplicate kind at) = S (faults.Duplicate kind at)
Halts S file (faults.BadChecksum stored computed at) = S (faults.BadChecksum stored computed at)

abbrev pub Outcome : {A : Type 0} → (Bytes → A → Type 0) → Stops → Result A LoadFault → (file taken ahead : Bytes) → Stage → Type 0
Outcome {A} P S (Ok a) file taken ahead new = Whole P a file taken ahead new
Outcome {A} P S (Err fault) file taken ahead new = Halts (S (length file) (length taken) ahead) file fault

-- where the disk tells the file, so much was taken of what stands ahead, or reading stops there with this fault
pub record Tells {A : Type 0} (P : Bytes → A → Type 0) (S : Stops) (result : Result A LoadFault) (stored : Option Stored) (old new : Stage) : Type 0 where
  pub is : (file taken ahead : Bytes) → HasFile stored file → IsAt file taken ahead old → Outcome P S result file taken ahead new

-- a call that reads such a form
pub record Reads {A : Type 0} (P : Bytes → A → Type 0) (S : Stops) (result : Result A LoadFault) (was is : Option Stored) (before now : ℕ) (old new : Stage) : Type 0 where
  pub goes : Goes was is before now old new
  pub caused : IsCaused result before now
  pub tells : Tells P S result was old new

-- ---- single bytes

abbrev pub IsByte : Bytes → ℕ → Type 0
IsByte form byte = form ≡ byte ∷ []

abbrev pub ByteStops : Stops
ByteStops size at rest fault = (rest ≡ []) × Ends size fault

-- ---- reading on

-- what was read stays as it is, but for what a cursor takes of it
pub record SameReading (old new : Stage) : Type 0 where
  pub next : new.next ≡ old.next
  pub ended : new.ended ≡ old.ended
  pub missing : new.missing ≡ old.missing

-- these bytes of the file stand behind those that were read
pub record Grows (piece : Bytes) (stored : Option Stored) (old new : Stand) (next next' : ℕ) : Type 0 where
  pub some : 0 < length piece
  pub there : WhereTold (λ file. Holds file next piece) stored
  pub rest : new.rest ≡ old.rest ++ piece
  pub place : new.place ≡ old.place
  pub sum : new.sum ≡ old.sum
  pub next_is : next' ≡ next + length piece
  pub fits : next' < 2 ^ 64

-- nothing was added to what was read
pub record Stays (old new : Stand) (next next' : ℕ) : Type 0 where
  pub rest : new.rest ≡ old.rest
  pub place : new.place ≡ old.place
  pub sum : new.sum ≡ old.sum
  pub next_is : next' ≡ next

-- why a piece can't be kept, behind which this place would be read
abbrev pub KeepFails : LoadFault → ℕ → Type 0
KeepFails (faults.Truncated at) next = 2 ^ 64 ≤ next
KeepFails faults.NoMemory next = Unit {0}
KeepFails (faults.ReadFault at) next = ⊥
KeepFails faults.BadMagic next = ⊥
KeepFails faults.BadVersion next = ⊥
KeepFails (faults.BadLength at) next = ⊥
KeepFails (faults.Unsupported code at) next = ⊥
KeepFails (faults.UnknownType code at) next = ⊥
KeepFails (faults.BadPart kind at) next = ⊥
KeepFails (faults.Duplicate kind at) next = ⊥
KeepFails (faults.BadChecksum sum computed at) next = ⊥

-- why a piece wasn't added: the disk's reasons, or one more byte than can be asked for
abbrev pub IsTooMuch : LoadFault → Option Stored → Type 0
IsTooMuch (faults.Truncated at) stored = WhereTold (λ file. (bytes : Bytes) × (file ≡ Some bytes) × IsBeyond bytes) stored
IsTooMuch faults.NoMemory stored = Unit {0}
IsTooMuch (faults.ReadFault at) stored = Unit {0}
IsTooMuch faults.BadMagic stored = ⊥
IsTooMuch faults.BadVersion stored = ⊥
IsTooMuch (faults.BadLength at) stored = ⊥
IsTooMuch (faults.Unsupported code at) stored = ⊥
IsTooMuch (faults.UnknownType code at) stored = ⊥
IsTooMuch (faults.BadPart kind at) stored = ⊥
IsTooMuch (faults.Duplicate kind at) stored = ⊥
IsTooMuch (faults.BadChecksum sum computed at) stored = ⊥

abbrev pub Fetched : Result Piece LoadFault → Option Stored → Stand → Stand → ℕ → ℕ → Type 0
Fetched (Ok piece.Kept) stored old new next next' = (piece : Bytes) × Grows piece stored old new next next'
Fetched (Ok piece.End) stored old new next next' = Stays old new next next' × WhereTold (λ file. IsPast file next) stored
Fetched (Ok piece.Missing) stored old new next next' = Stays old new next next' × WhereTold (λ file. file ≡ None) stored
Fetched (Err fault) stored old new next next' = Stays old new next next' × IsTooMuch fault stored

-- more was read and nothing taken; or the file has ended, so that all that stands ahead was read
abbrev pub ReadsOn : Result Bool LoadFault → (file taken ahead : Bytes) → Stage → Type 0
ReadsOn (Ok true) file taken ahead new = IsAt file taken ahead new
ReadsOn (Ok false) file taken ahead new = IsAt file taken ahead new × (new.cursor.rest ≡ ahead) × (new.next ≡ place_of (length file))
ReadsOn (Err fault) file taken ahead new = Halts (λ f. ⊥) file fault

-- the cursor stays where the file has ended, and else there is less to read
abbrev pub HasRest : Result Bool LoadFault → Stage → Stage → Type 0
HasRest (Ok true) old new = reads_left new < reads_left old
HasRest (Ok false) old new = (new.cursor.rest ≡ old.cursor.rest) × (new.cursor.place ≡ old.cursor.place)
HasRest (Err fault) old new = Unit {0}

-- the first piece says whether there is a file
abbrev pub Finds : Result Bool LoadFault → Option Stored → Stage → Stage → Type 0
Finds (Ok more) stored old new = (old.ended ≡ true) ⊎ ((new.missing ≡ true) ⊎ HasSome stored)
Finds (Err fault) stored old new = IsTooMuch fault stored

pub record Reading (result : Result Bool LoadFault) (was is : Option Stored) (before now : ℕ) (old new : Stage) : Type 0 where
  pub goes : Goes was is before now old new
  pub caused : IsCaused result before now
  pub left : HasRest result old new
  pub finds : Finds result is old new
  pub tells : (file taken ahead : Bytes) → HasFile was file → IsAt file taken ahead old → ReadsOn result file taken ahead new

-- whether nothing stands ahead
abbrev pub EndIs : Result Bool LoadFault → (file ahead : Bytes) → Type 0
EndIs (Ok true) file ahead = ahead ≡ []
EndIs (Ok false) file ahead = 0 < length ahead
EndIs (Err fault) file ahead = Halts (λ f. ⊥) file fault

pub record SeesEnd (result : Result Bool LoadFault) (was is : Option Stored) (before now : ℕ) (old new : Stage) : Type 0 where
  pub goes : Goes was is before now old new
  pub caused : IsCaused result before now
  pub tells : (file taken ahead : Bytes) → HasFile was file → IsAt file taken ahead old → EndIs result file ahead
