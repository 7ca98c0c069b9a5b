-- Statements of laws.
use Rattle.std.specs.Prelude.{◌≡◌, ℕ, ◌^◌, ◌<◌, ◌≤◌}
use Rattle.std.specs.List.{AllByRecursion}
use Rattle.df_model.specs.Values.{Bytes}
use Rattle.df_model.specs.Keyspace.{Keyspace}
use Rattle.df_rdbcore.specs.Files.{Spells}
use Rattle.df_rdbcore.specs.declared.fault.LoadFault.{LoadFault}
use Rattle.df_rdbcore.specs.declared.fault.LoadFault.TheVariants as faults
use Rattle.df_rdbload.specs.FileStops.{FileStops}

-- numbers that a disk's file may have; a sum is told apart from others in 64 bits only of these
abbrev pub AreBytes : Bytes → Type 0
AreBytes = AllByRecursion (λ b. b < 256)

-- no fault is told of a file that spells a keyspace
abbrev pub StopsNowhere : Type 0
StopsNowhere = (bytes : Bytes) (K : Keyspace) (fault : LoadFault) → AreBytes bytes → Spells bytes K → FileStops bytes fault → ⊥

-- of any numbers the only fault that may be told is a sum that needs more than 64 bits
abbrev pub StopsAtWideSum : Type 0
StopsAtWideSum = (bytes : Bytes) (K : Keyspace) (fault : LoadFault) → Spells bytes K → FileStops bytes fault → (stored : ℕ) × (computed : ℕ) × (at : ℕ) × (fault ≡ faults.BadChecksum stored computed at) × (2 ^ 64 ≤ computed)

-- and there is a list that spells a keyspace where reading stops at its sum
abbrev pub LargerMayStop : Type 0
LargerMayStop = (bytes : Bytes) × (K : Keyspace) × (fault : LoadFault) × Spells bytes K × FileStops bytes fault

-- reading stops with one fault: one kind, at one place
abbrev pub StopsOnce : Type 0
StopsOnce = (bytes : Bytes) (f g : LoadFault) → FileStops bytes f → FileStops bytes g → f ≡ g
