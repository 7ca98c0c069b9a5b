-- A door in memory: what it is, and what each call does, a row an answer.
use Rattle.std.specs.Prelude.{◌≡◌, ℕ, ◌+◌, Bool, true, false, List, [], ◌∷◌, Option, Some, None}
use Rattle.df_outside.specs.Doors.{Hall}
use Rattle.df_outside.specs.FaultPlans.{FaultPlan, plan_of, fails_next, passed, failed}
use Rattle.df_outside.specs.declared.disks.Done.{Done}
use Rattle.df_outside.specs.declared.disks.Done.TheVariants as done
use Rattle.df_outside.specs.declared.doors.Came.{Came}
use Rattle.df_outside.specs.declared.doors.Came.TheVariants as came

-- the links that are still to come, a None for an accept that waits; how many were handed out
pub record DoorState (L : Type 0) : Type 0 where
  pub left : List (Option L)
  pub given : ℕ
  pub shut : Bool
  pub plan : FaultPlan

-- a door as it is made
abbrev pub door_of : {L : Type 0} → List (Option L) → List ℕ → DoorState L
door_of links fails = record { left = links; given = 0; shut = false; plan = plan_of fails }

-- what it tells as a door: all
abbrev pub hall_of : {L : Type 0} → DoorState L → Hall
hall_of state = record { given = Some state.given; shut = Some state.shut; faults = state.plan.faults }

-- a call that is named fails and leaves all
abbrev pub FailsCall : {L : Type 0} → DoorState L → DoorState L → Type 0
FailsCall old new = (fails_next old.plan ≡ true) × (new ≡ record old { plan = failed old.plan })

abbrev pub HasBound : {L : Type 0} → Done → DoorState L → DoorState L → Type 0
HasBound done.Ok old new = (fails_next old.plan ≡ false) × (new ≡ record old { plan = passed old.plan })
HasBound done.Failed old new = FailsCall old new
HasBound done.NoMemory old new = ⊥

-- the next place was taken, and so many links were handed out
abbrev pub Takes : {L : Type 0} → Option L → ℕ → DoorState L → DoorState L → Type 0
Takes place given old new =
    (old.shut ≡ false)
    × (fails_next old.plan ≡ false)
    × (old.left ≡ place ∷ new.left)
    × (new ≡ record old { left = new.left; given = given; plan = passed old.plan })

-- the first Closed shuts the door; from then on accepts aren't counted
abbrev pub IsShut : {L : Type 0} → Bool → DoorState L → DoorState L → Type 0
IsShut false old new =
    (fails_next old.plan ≡ false) × (old.left ≡ []) × (new ≡ record old { shut = true; plan = passed old.plan })
IsShut true old new = new ≡ old

-- an accept; the rows exclude each other
abbrev pub HasAccepted : {L : Type 0} → Came L → DoorState L → DoorState L → Type 0
HasAccepted (came.Link link) old new = Takes (Some link) (old.given + 1) old new
HasAccepted came.NotYet old new = Takes None old.given old new
HasAccepted came.Closed old new = IsShut old.shut old new
HasAccepted came.Failed old new = (old.shut ≡ false) × FailsCall old new
HasAccepted came.NoMemory old new = ⊥
