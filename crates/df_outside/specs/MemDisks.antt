-- A disk in memory: what it is, and what each call does, a row an answer.
use Rattle.std.specs.Prelude.{◌≡◌, ℕ, ◌<◌, ◌≤◌, true, false, List, Option, Some, None, [], ◌∷◌, ◌++◌, length, take, drop}
use Rattle.df_outside.specs.Disks.{Stored}
use Rattle.df_outside.specs.FaultPlans.{FaultPlan, plan_of, fails_next, passed, failed}
use Rattle.df_outside.specs.declared.disks.Done.{Done}
use Rattle.df_outside.specs.declared.disks.Done.TheVariants as done
use Rattle.df_outside.specs.declared.disks.Had.{Had}
use Rattle.df_outside.specs.declared.disks.Had.TheVariants as had

pub record DiskState : Type 0 where
  pub stored : Stored
  pub plan : FaultPlan

-- a disk as it is made
abbrev pub disk_of : Option (List ℕ) → List ℕ → DiskState
disk_of file fails = record { stored = record { file = file; fresh = []; synced = false; puts = [] }; plan = plan_of fails }

abbrev pub begun : Stored → Stored
begun stored = record stored { fresh = []; synced = false }

abbrev pub appended : List ℕ → Stored → Stored
appended piece stored = record stored { fresh = stored.fresh ++ piece; synced = false }

abbrev pub made_sure : Stored → Stored
made_sure stored = record stored { synced = true }

-- what was appended is the file now, and nothing is appended
abbrev pub put_in_place : Stored → Stored
put_in_place stored = record { file = Some stored.fresh; fresh = []; synced = false; puts = stored.puts ++ stored.fresh ∷ [] }

-- a call that isn't named leaves this
abbrev pub Passes : Stored → DiskState → DiskState → Type 0
Passes stored old new = (fails_next old.plan ≡ false) × (new ≡ record { stored = stored; plan = passed old.plan })

-- a call that is named fails and leaves all
abbrev pub FailsCall : DiskState → DiskState → Type 0
FailsCall old new = (fails_next old.plan ≡ true) × (new ≡ record old { plan = failed old.plan })

-- a call that takes no memory
abbrev pub HasDone : Done → Stored → DiskState → DiskState → Type 0
HasDone done.Ok stored old new = Passes stored old new
HasDone done.Failed stored old new = FailsCall old new
HasDone done.NoMemory stored old new = ⊥

-- `append` may find no memory, and then leaves all
abbrev pub HasAppendedTo : Done → List ℕ → DiskState → DiskState → Type 0
HasAppendedTo done.Ok piece old new = Passes (appended piece old.stored) old new
HasAppendedTo done.Failed piece old new = FailsCall old new
HasAppendedTo done.NoMemory piece old new = Passes old.stored old new

-- a read of n bytes of this content from a place: as many as the buffer takes, whose other bytes stay
pub record Gives (n at : ℕ) (content before after : List ℕ) : Type 0 where
  pub some : 0 < n
  pub count : n ≡ length (take (length before) (drop at content))
  pub buffer : after ≡ take (length before) (drop at content) ++ drop n before

-- what a read finds
abbrev pub Finds : Had → ℕ → Option (List ℕ) → List ℕ → List ℕ → Type 0
Finds (had.Took n) at None before after = ⊥
Finds (had.Took n) at (Some content) before after = Gives n at content before after
Finds had.End at None before after = ⊥
Finds had.End at (Some content) before after = (length content ≤ at) × (after ≡ before)
Finds had.Missing at None before after = after ≡ before
Finds had.Missing at (Some content) before after = ⊥
Finds had.Failed at file before after = ⊥
Finds had.NoMemory at file before after = ⊥

-- a read, with the buffer before and after it
abbrev pub HasReadAt : Had → ℕ → DiskState → DiskState → List ℕ → List ℕ → Type 0
HasReadAt (had.Took n) at old new before after = Passes old.stored old new × Finds (had.Took n) at old.stored.file before after
HasReadAt had.End at old new before after = Passes old.stored old new × Finds had.End at old.stored.file before after
HasReadAt had.Missing at old new before after = Passes old.stored old new × Finds had.Missing at old.stored.file before after
HasReadAt had.Failed at old new before after = FailsCall old new × (after ≡ before)
HasReadAt had.NoMemory at old new before after = ⊥
