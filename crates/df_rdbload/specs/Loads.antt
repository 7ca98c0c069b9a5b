-- What loading a file came to.
use Rattle.std.specs.Prelude.{◌≡◌, ◌⊎◌, ℕ, Option, Some, None, Result, Ok, Err}
use Rattle.df_model.specs.Values.{Bytes}
use Rattle.df_outside.specs.Faults.{Rose}
use Rattle.df_outside.specs.Disks.{Stored}
use Rattle.df_rdbcore.specs.Files.{Spells}
use Rattle.df_rdbcore.specs.declared.fault.LoadFault.{LoadFault}
use Rattle.df_rdbcore.specs.declared.fault.LoadFault.TheVariants as faults
use Rattle.df_rdbload.specs.FileStops.{FileStops}
use Rattle.df_rdbload.specs.Sources.{WhereTold, IsBeyond}
use Rattle.df_rdbload.specs.Entries.{keyspace_in}
use Rattle.df_rdbload.specs.declared.file.Loaded.{Loaded}
use Rattle.df_rdbload.specs.declared.file.Loaded.TheVariants as loaded

-- where the disk tells the file, it is there, and this holds of its bytes
abbrev pub OfFile : (Bytes → Type 0) → Option Stored → Type 0
OfFile P stored = WhereTold (λ file. (bytes : Bytes) × (file ≡ Some bytes) × P bytes) stored

-- why no keys were loaded: the disk failed, memory ran out, or the file's first fault. A file that is longer than a disk can
-- be asked for may seem to end too early
abbrev pub Refused : LoadFault → Option Stored → ℕ → ℕ → Type 0
Refused (faults.ReadFault at) stored before now = Rose before now
Refused faults.NoMemory stored before now = Unit {0}
Refused faults.BadMagic stored before now = OfFile (λ bytes. FileStops bytes faults.BadMagic) stored
Refused faults.BadVersion stored before now = OfFile (λ bytes. FileStops bytes faults.BadVersion) stored
Refused (faults.Truncated at) stored before now = OfFile (λ bytes. FileStops bytes (faults.Truncated at) ⊎ IsBeyond bytes) stored
Refused (faults.BadLength at) stored before now = OfFile (λ bytes. FileStops bytes (faults.BadLength at)) stored
Refused (faults.Unsupported code at) stored before now = OfFile (λ bytes. FileStops bytes (faults.Unsupported code at)) stored
Refused (faults.UnknownType code at) stored before now = OfFile (λ bytes. FileStops bytes (faults.UnknownType code at)) stored
Refused (faults.BadPart kind at) stored before now = OfFile (λ bytes. FileStops bytes (faults.BadPart kind at)) stored
Refused (faults.Duplicate kind at) stored before now = OfFile (λ bytes. FileStops bytes (faults.Duplicate kind at)) stored
Refused (faults.BadChecksum sum computed at) stored before now = OfFile (λ bytes. FileStops bytes (faults.BadChecksum sum computed at)) stored

-- there is no file; the file spells the keyspace of these keys; or its first fault
abbrev pub HasLoaded : Result Loaded LoadFault → Option Stored → ℕ → ℕ → Type 0
HasLoaded (Ok loaded.NoFile) stored before now = WhereTold (λ file. file ≡ None) stored
HasLoaded (Ok (loaded.Keys keys)) stored before now = OfFile (λ bytes. Spells bytes (keyspace_in keys.entries)) stored
HasLoaded (Err fault) stored before now = Refused fault stored before now
