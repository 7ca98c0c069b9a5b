-- The promise of `check`: what a run of it printed and answered.
use Rattle.std.specs.Prelude.{◌≡◌, ◌⊎◌, ℕ, Option, Some, None}
use Rattle.std.specs.Io.KnownBytes.{Appends}
use Rattle.std.specs.FinMap as map
use Rattle.df_model.specs.Values.{Bytes}
use Rattle.df_model.specs.Keyspace.{Keyspace}
use Rattle.df_outside.specs.Faults.{Rose}
use Rattle.df_outside.specs.Streams.{Outflow}
use Rattle.df_outside.specs.Disks.{Stored, Told}
use Rattle.df_rdbcore.specs.Files.{Spells}
use Rattle.df_rdbcore.specs.declared.fault.LoadFault.{LoadFault}
use Rattle.df_rdbcore.specs.declared.fault.LoadFault.TheVariants as faults
use Rattle.df_rdbload.specs.Entries.{keyspace_in}
use Rattle.df_rdbload.specs.Sources.{WhereTold}
use Rattle.df_rdbload.specs.Loads.{OfFile, Refused}
use Rattle.df_rdbload.specs.declared.file.Loaded.{Loaded}
use Rattle.df_rdbload.specs.declared.file.Loaded.TheVariants as loaded
use Rattle.df_print.specs.Writes.{LineStatus, WroteFront}
use Rattle.df_check.specs.Lines.{keys_line, no_file, disk_fault, refused_line}

-- ---- the run

-- a run as it is seen from outside: its status, and the output and the disk before and after it
pub record CheckRun : Type 0 where
  pub status : ℕ
  pub output_before : Outflow
  pub output : Outflow
  pub stored_before : Option Stored
  pub stored : Option Stored
  pub faults_before : ℕ
  pub faults : ℕ

-- the line with the count of keys was said, as far as the status tells: whole at 0 alone
abbrev pub KeysStatus : ℕ → ℕ → Outflow → Outflow → Type 0
KeysStatus n status before now =
    ((status ≡ 0) × Appends before.written now.written (keys_line n))
    ⊎ ((status ≡ 8) × WroteFront (keys_line n) before now × Rose before.faults now.faults)
    ⊎ ((status ≡ 4) × WroteFront (keys_line n) before now)

abbrev pub Tells : Bytes → ℕ → CheckRun → Type 0
Tells line wanted run = LineStatus line wanted run.status run.output_before run.output

abbrev pub TellsKeys : ℕ → CheckRun → Type 0
TellsKeys n run = KeysStatus n run.status run.output_before run.output

-- a fault of the file, and not of the disk or for want of memory
abbrev pub IsOfFile : LoadFault → Type 0
IsOfFile (faults.ReadFault at) = ⊥
IsOfFile faults.NoMemory = ⊥
IsOfFile faults.BadMagic = Unit {0}
IsOfFile faults.BadVersion = Unit {0}
IsOfFile (faults.Truncated at) = Unit {0}
IsOfFile (faults.BadLength at) = Unit {0}
IsOfFile (faults.Unsupported code at) = Unit {0}
IsOfFile (faults.UnknownType code at) = Unit {0}
IsOfFile (faults.BadPart kind at) = Unit {0}
IsOfFile (faults.Duplicate kind at) = Unit {0}
IsOfFile (faults.BadChecksum sum computed at) = Unit {0}

-- the file spells a keyspace of so many keys
abbrev pub SpellsSoMany : ℕ → Bytes → Type 0
SpellsSoMany n bytes = (K : Keyspace) × Spells bytes K × (n ≡ map.len K)

-- what it came to: the count of the keys that the file spells, or why it isn't known
pub data Checked (run : CheckRun) : Type 0 where
  keys : (n : ℕ) → OfFile (SpellsSoMany n) run.stored_before → TellsKeys n run → Checked run
  none : WhereTold (λ file. file ≡ None) run.stored_before → Tells no_file 3 run → Checked run
  refused : (fault : LoadFault) → IsOfFile fault → Refused fault run.stored_before run.faults_before run.faults → Tells (refused_line fault) 3 run → Checked run
  failed : Rose run.faults_before run.faults → Tells disk_fault 5 run → Checked run
  no_memory : run.status ≡ 4 → run.output ≡ run.output_before → Checked run

pub record CheckPromise (run : CheckRun) : Type 0 where
  pub disk : Told run.stored_before run.stored (λ a b. b ≡ a)
  pub checked : Checked run

-- ---- steps of it

abbrev pub KeysTold : Loaded → ℕ → Outflow → Outflow → Type 0
KeysTold loaded.NoFile status before now = LineStatus no_file 3 status before now
KeysTold (loaded.Keys held) status before now = KeysStatus (map.len (keyspace_in held.entries)) status before now

abbrev pub FaultTold : LoadFault → ℕ → Outflow → Outflow → Type 0
FaultTold (faults.ReadFault at) status before now = LineStatus disk_fault 5 status before now
FaultTold faults.NoMemory status before now = (status ≡ 4) × (now ≡ before)
FaultTold faults.BadMagic status before now = LineStatus (refused_line faults.BadMagic) 3 status before now
FaultTold faults.BadVersion status before now = LineStatus (refused_line faults.BadVersion) 3 status before now
FaultTold (faults.Truncated at) status before now = LineStatus (refused_line (faults.Truncated at)) 3 status before now
FaultTold (faults.BadLength at) status before now = LineStatus (refused_line (faults.BadLength at)) 3 status before now
FaultTold (faults.Unsupported code at) status before now = LineStatus (refused_line (faults.Unsupported code at)) 3 status before now
FaultTold (faults.UnknownType code at) status before now = LineStatus (refused_line (faults.UnknownType code at)) 3 status before now
FaultTold (faults.BadPart kind at) status before now = LineStatus (refused_line (faults.BadPart kind at)) 3 status before now
FaultTold (faults.Duplicate kind at) status before now = LineStatus (refused_line (faults.Duplicate kind at)) 3 status before now
FaultTold (faults.BadChecksum sum computed at) status before now = LineStatus (refused_line (faults.BadChecksum sum computed at)) 3 status before now
