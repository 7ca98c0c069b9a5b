-- From what was loaded and told to the promise.
use Rattle.std.proofs.Common.{◌≡◌, ◌⊎◌, inl, inr, ℕ, ◌≤◌, [], length, refl, sym, ap, subst, ◌∙◌, arith}
use Rattle.std.specs.Prelude.{Option, Some, None, Ok, Err}
use Rattle.std.specs.FinMap as map
use Rattle.std.proofs.KnownBytes.{Appends-nil}
use Rattle.df_model.specs.Values.{Bytes}
use Rattle.df_outside.specs.Disks.{Stored, Told}
use Rattle.df_outside.specs.Faults.{Rose}
use Rattle.df_outside.specs.Streams.{Outflow}
use Rattle.df_rdbcore.specs.Files.{Spells}
use Rattle.df_rdbcore.specs.declared.fault.LoadFault.{LoadFault}
use Rattle.df_rdbcore.specs.declared.fault.LoadFault.TheVariants as faults
use Rattle.df_rdbload.specs.Entries.{keyspace_in}
use Rattle.df_rdbload.specs.Loads.{OfFile, Refused, HasLoaded}
use Rattle.df_rdbload.specs.declared.file.Loaded.{Loaded}
use Rattle.df_rdbload.specs.declared.file.Loaded.TheVariants as loaded
use Rattle.df_print.specs.Writes.{LineStatus, WroteFront}
use Rattle.df_check.specs.Check.{CheckRun, CheckPromise, Checked, SpellsSoMany, IsOfFile, KeysTold, FaultTold}
use Rattle.df_check.specs.Lines.{refused_line}

-- nothing of a line was written
pub front_none : (line : Bytes) (flow : Outflow) → WroteFront line flow flow
front_none line flow = record { wrote = []; unsent = line; front = refl; written = Appends-nil flow.written }

pub told_same : (a b : Option Stored) → Told a b (λ x y. y ≡ x) → b ≡ a
told_same None None t = refl
told_same (Some a) (Some b) t = ap Some t
told_same None (Some b) t = absurd t
told_same (Some a) None t = absurd t

-- a call before it left the disk as it was
abbrev pub earlier : CheckRun → Option Stored → ℕ → CheckRun
earlier run stored faults = record run { stored_before = stored; faults_before = faults }

refused_earlier : (fault : LoadFault) (stored : Option Stored) (before middle now : ℕ) → before ≤ middle → Refused fault stored middle now → Refused fault stored before now
refused_earlier (faults.ReadFault at) stored before middle now le r = omega (arith, le, r)
refused_earlier faults.NoMemory stored before middle now le r = r
refused_earlier faults.BadMagic stored before middle now le r = r
refused_earlier faults.BadVersion stored before middle now le r = r
refused_earlier (faults.Truncated at) stored before middle now le r = r
refused_earlier (faults.BadLength at) stored before middle now le r = r
refused_earlier (faults.Unsupported code at) stored before middle now le r = r
refused_earlier (faults.UnknownType code at) stored before middle now le r = r
refused_earlier (faults.BadPart kind at) stored before middle now le r = r
refused_earlier (faults.Duplicate kind at) stored before middle now le r = r
refused_earlier (faults.BadChecksum sum computed at) stored before middle now le r = r

checked_earlier : (run : CheckRun) (faults : ℕ) → faults ≤ run.faults_before → Checked run → Checked (earlier run run.stored_before faults)
checked_earlier run faults le (Checked.keys n spells told) = Checked.keys n spells told
checked_earlier run faults le (Checked.none is told) = Checked.none is told
checked_earlier run faults le (Checked.refused fault file stops told) = Checked.refused fault file (refused_earlier fault run.stored_before faults run.faults_before run.faults le stops) told
checked_earlier run faults le (Checked.failed rose told) = Checked.failed (omega (arith, le, rose)) told
checked_earlier run faults le (Checked.no_memory is same) = Checked.no_memory is same

pub after_choice : (run : CheckRun) (stored : Option Stored) (faults : ℕ) → Told stored run.stored_before (λ x y. y ≡ x) → faults ≤ run.faults_before → CheckPromise run → CheckPromise (earlier run stored faults)
after_choice run stored faults told le p =
    subst (λ s. CheckPromise (earlier run s faults)) (told_same stored run.stored_before told)
    record { disk = p.disk; checked = checked_earlier run faults le p.checked }

of_file_more : (P Q : Bytes → Type 0) (stored : Option Stored) → ((bytes : Bytes) → P bytes → Q bytes) → OfFile P stored → OfFile Q stored
of_file_more P Q None f o = o
of_file_more P Q (Some stored) f o = (o.0, o.1, f o.0 o.2)

-- what was loaded was told
pub loaded_checked : (l : Loaded) (status : ℕ) (before now : Outflow) (old new : Option Stored) (faults_before faults : ℕ) → Told old new (λ x y. y ≡ x) → HasLoaded (Ok l) new faults_before faults → KeysTold l status before now →
    CheckPromise record { status = status; output_before = before; output = now; stored_before = old; stored = new; faults_before = faults_before; faults = faults }
loaded_checked loaded.NoFile status before now old new f0 f1 told has said = record {
  disk = told;
  checked = Checked.none (subst (λ s. HasLoaded (Ok loaded.NoFile) s f0 f1) (told_same old new told) has) said;
}
loaded_checked (loaded.Keys held) status before now old new f0 f1 told has said = record {
  disk = told;
  checked = Checked.keys (map.len (keyspace_in held.entries))
      (of_file_more (λ bytes. Spells bytes (keyspace_in held.entries)) (SpellsSoMany (map.len (keyspace_in held.entries))) old (λ bytes spells. (keyspace_in held.entries, spells, refl))
      (subst (λ s. HasLoaded (Ok (loaded.Keys held)) s f0 f1) (told_same old new told) has)) said;
}

abbrev run_of : ℕ → Outflow → Outflow → Option Stored → Option Stored → ℕ → ℕ → CheckRun
run_of status before now old new f0 f1 = record { status = status; output_before = before; output = now; stored_before = old; stored = new; faults_before = f0; faults = f1 }

-- why nothing was loaded was told
fault_told : (fault : LoadFault) (status : ℕ) (before now : Outflow) (old new : Option Stored) (f0 f1 : ℕ) → Refused fault old f0 f1 → FaultTold fault status before now → Checked (run_of status before now old new f0 f1)
fault_told (faults.ReadFault at) status before now old new f0 f1 r told = Checked.failed r told
fault_told faults.NoMemory status before now old new f0 f1 r told = Checked.no_memory told.0 told.1
fault_told faults.BadMagic status before now old new f0 f1 r told = Checked.refused faults.BadMagic tt r told
fault_told faults.BadVersion status before now old new f0 f1 r told = Checked.refused faults.BadVersion tt r told
fault_told (faults.Truncated at) status before now old new f0 f1 r told = Checked.refused (faults.Truncated at) tt r told
fault_told (faults.BadLength at) status before now old new f0 f1 r told = Checked.refused (faults.BadLength at) tt r told
fault_told (faults.Unsupported code at) status before now old new f0 f1 r told = Checked.refused (faults.Unsupported code at) tt r told
fault_told (faults.UnknownType code at) status before now old new f0 f1 r told = Checked.refused (faults.UnknownType code at) tt r told
fault_told (faults.BadPart kind at) status before now old new f0 f1 r told = Checked.refused (faults.BadPart kind at) tt r told
fault_told (faults.Duplicate kind at) status before now old new f0 f1 r told = Checked.refused (faults.Duplicate kind at) tt r told
fault_told (faults.BadChecksum sum computed at) status before now old new f0 f1 r told = Checked.refused (faults.BadChecksum sum computed at) tt r told

pub fault_checked : (fault : LoadFault) (status : ℕ) (before now : Outflow) (old new : Option Stored) (f0 f1 : ℕ) → Told old new (λ x y. y ≡ x) → HasLoaded (Err fault) new f0 f1 → FaultTold fault status before now → CheckPromise (run_of status before now old new f0 f1)
fault_checked fault status before now old new f0 f1 told has said = record {
  disk = told;
  checked = fault_told fault status before now old new f0 f1 (subst (λ s. Refused fault s f0 f1) (told_same old new told) has) said;
}

pub told_refused : (fault : LoadFault) (status : ℕ) (before now : Outflow) → IsOfFile fault → LineStatus (refused_line fault) 3 status before now → FaultTold fault status before now
told_refused (faults.ReadFault at) status before now file l = absurd file
told_refused faults.NoMemory status before now file l = absurd file
told_refused faults.BadMagic status before now file l = l
told_refused faults.BadVersion status before now file l = l
told_refused (faults.Truncated at) status before now file l = l
told_refused (faults.BadLength at) status before now file l = l
told_refused (faults.Unsupported code at) status before now file l = l
told_refused (faults.UnknownType code at) status before now file l = l
told_refused (faults.BadPart kind at) status before now file l = l
told_refused (faults.Duplicate kind at) status before now file l = l
told_refused (faults.BadChecksum sum computed at) status before now file l = l
