-- Pieces that are written in parts.
use Rattle.std.specs.Prelude.{◌≡◌, ◌⊎◌, ℕ, ◌≤◌, ◌++◌}
use Rattle.std.specs.Io.KnownBytes.{Appends}
use Rattle.df_model.specs.Values.{Bytes}
use Rattle.df_outside.specs.Faults.{Rose}
use Rattle.df_outside.specs.Streams.{Outflow}
use Rattle.df_print.specs.declared.write.Written.{Written}
use Rattle.df_print.specs.declared.write.Written.TheVariants as written

-- a front of the bytes was written
pub record WroteFront (bytes : Bytes) (before now : Outflow) : Type 0 where
  pub wrote : Bytes
  pub unsent : Bytes
  pub front : bytes ≡ wrote ++ unsent
  pub written : Appends before.written now.written wrote

-- a front of the piece was written; all of it, or there is a cause
abbrev pub HasWritten : Written → Bytes → Outflow → Outflow → Type 0
HasWritten written.Whole piece before now = Appends before.written now.written piece × (before.faults ≤ now.faults)
HasWritten written.Failed piece before now = WroteFront piece before now × Rose before.faults now.faults
HasWritten written.NoMemory piece before now = WroteFront piece before now

-- a line was written, as far as the status says: whole at this one unless a write of it failed, or a front of it at
-- want of memory
abbrev pub LineStatus : Bytes → ℕ → ℕ → Outflow → Outflow → Type 0
LineStatus line wanted status before now =
    ((status ≡ wanted) × Appends before.written now.written line)
    ⊎ ((status ≡ wanted) × WroteFront line before now × Rose before.faults now.faults)
    ⊎ ((status ≡ 4) × WroteFront line before now)
