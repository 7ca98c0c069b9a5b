-- Doors: what an accept that answered so did, a row an answer.
use Rattle.std.specs.Prelude.{◌≡◌, ℕ, ◌+◌, ◌≤◌, Bool, true, false, [], Option, Some, None}
use Rattle.df_outside.specs.Faults.{Rose}
use Rattle.df_outside.specs.Links.{Flow}
use Rattle.df_outside.specs.declared.disks.Done.{Done}
use Rattle.df_outside.specs.declared.disks.Done.TheVariants as done
use Rattle.df_outside.specs.declared.doors.Came.{Came}
use Rattle.df_outside.specs.declared.doors.Came.TheVariants as came

-- how many links were handed out and whether it is shut, where it tells them; how often it failed
pub record Hall : Type 0 where
  pub given : Option ℕ
  pub shut : Option Bool
  pub faults : ℕ

-- nothing but the count of faults may change
pub record StaysOpen (old new : Hall) : Type 0 where
  pub given : new.given ≡ old.given
  pub shut : new.shut ≡ old.shut
  pub faults : old.faults ≤ new.faults

abbrev pub Binds : Done → Hall → Hall → Type 0
Binds done.Ok old new = StaysOpen old new
Binds done.Failed old new = StaysOpen old new × Rose old.faults new.faults
Binds done.NoMemory old new = StaysOpen old new

-- one link more was handed out, where that is told
abbrev pub OneMore : Option ℕ → Option ℕ → Type 0
OneMore None None = Unit {0}
OneMore (Some before) (Some now) = now ≡ before + 1
OneMore None (Some now) = ⊥
OneMore (Some before) None = ⊥

-- told to be so, or not told
abbrev pub IsTold : {X : Type 0} → X → Option X → Type 0
IsTold x None = Unit {0}
IsTold x (Some y) = y ≡ x

-- a link as it is handed out
pub record IsFresh (flow : Flow) : Type 0 where
  pub taken : IsTold [] flow.taken
  pub written : IsTold [] flow.written
  pub ended : flow.ended ≡ false
  pub read_faults : flow.read_faults ≡ 0
  pub write_faults : flow.write_faults ≡ 0
  pub waits : flow.waits ≡ 0

-- a place of a door in memory: a link in it is as a door hands it out
abbrev pub ComesFresh : {L : Type 0} → (L → Flow) → Option L → Type 0
ComesFresh flow None = Unit {0}
ComesFresh flow (Some link) = IsFresh (flow link)

-- it is shut now, where that is told
abbrev pub Shuts : Option Bool → Option Bool → Type 0
Shuts None None = Unit {0}
Shuts (Some before) (Some now) = now ≡ true
Shuts None (Some now) = ⊥
Shuts (Some before) None = ⊥

-- a link was handed out, as a door hands it out
pub record Gives (flow : Flow) (old new : Hall) : Type 0 where
  pub given : OneMore old.given new.given
  pub shut : new.shut ≡ old.shut
  pub was_open : IsTold false old.shut
  pub faults : old.faults ≤ new.faults
  pub fresh : IsFresh flow

-- Closed is the answer from then on: each other one says that the door wasn't shut
abbrev pub Accepts : {L : Type 0} → (L → Flow) → Came L → Hall → Hall → Type 0
Accepts flow (came.Link link) old new = Gives (flow link) old new
Accepts flow came.NotYet old new = StaysOpen old new × IsTold false old.shut
Accepts flow came.Closed old new = (new.given ≡ old.given) × Shuts old.shut new.shut × (old.faults ≤ new.faults)
Accepts flow came.Failed old new = StaysOpen old new × Rose old.faults new.faults × IsTold false old.shut
Accepts flow came.NoMemory old new = StaysOpen old new × IsTold false old.shut
