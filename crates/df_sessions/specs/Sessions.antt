-- An open session, and one that ended.
use Rattle.std.specs.Prelude.{◌≡◌, ℕ, ◌+◌, ◌*◌, ◌^◌, ◌<◌, Bool, true, List, [], length, Option, Some, None, is_some}
use Rattle.std.specs.Io.KnownBytes.{Appends}
use Rattle.df_model.specs.Values.{Bytes}
use Rattle.df_model.specs.Spoken.{Spoke}
use Rattle.df_model.specs.declared.session.Turn.{Turn}
use Rattle.df_model.specs.declared.session.Turn.TheVariants as turns
use Rattle.df_model.specs.declared.session.Why.{Why}
use Rattle.df_model.specs.declared.session.Why.TheVariants as ends
use Rattle.df_outside.specs.Links.{Flow, Spends}
use Rattle.df_caller.specs.Told.{Told, told_items}
use Rattle.df_conn.specs.Turns.{IsGoing, Proven, StaysServed, TurnedAway, is_away, session_of, rank}
use Rattle.df_conn.specs.declared.conn.Stage.{Stage}
use Rattle.df_conn.specs.declared.conn.Stage.TheVariants as stages
use Rattle.df_desk.specs.States.{DeskState}

pub record Sitting : Type 0 where
  pub id : ℕ
  pub stage : Stage
  pub desk : DeskState
  pub first : Flow
  pub flow : Flow
  -- bytes that came and aren't taken as requests yet, and bytes of output that wait
  pub rest : ℕ
  pub waits : ℕ

pub record Parted : Type 0 where
  pub id : ℕ
  pub why : Why
  pub told : List Told
  pub first : Flow
  pub flow : Flow

-- the bytes that may still be taken, where that is told
abbrev pub limit_of : Option ℕ → ℕ
limit_of None = 0
limit_of (Some left) = left

-- what turns can still do where the link has a limit
abbrev pub work_of : Sitting → ℕ
work_of s = ((limit_of s.flow.left * 2 + s.rest) * 4 + rank s.stage) * 2 ^ 64 + s.waits

-- where the link has a limit, a turn that moved leaves less to do, and none waits behind a call whose outcome is due
abbrev pub ComesNearer : Turn → Sitting → Sitting → Type 0
ComesNearer turns.Moved old new = is_some old.flow.left ≡ true → (is_some new.flow.left ≡ true) × (work_of new < work_of old)
ComesNearer turns.NotYet old new = is_some old.flow.left ≡ true → old.desk.calling.due ≡ true → ⊥
ComesNearer (turns.Ended why) old new = Unit {0}

-- a session at its start: served, or turned away
pub record Sits (s : Sitting) (id : ℕ) (flow : Flow) (away : Bool) : Type 0 where
  pub id_is : s.id ≡ id
  pub going : IsGoing s.stage
  pub none : s.desk.ran ≡ []
  pub first_is : s.first ≡ flow
  -- where the link has a limit, it has it still
  pub limited : is_some flow.left ≡ true → is_some s.flow.left ≡ true
  pub due : s.desk.calling.due ≡ true
  pub away_is : is_away s.stage ≡ away

-- all but the mailbox
pub record Same (old new : Sitting) : Type 0 where
  pub id : new.id ≡ old.id
  pub stage : new.stage ≡ old.stage
  pub first : new.first ≡ old.first
  pub flow : new.flow ≡ old.flow
  pub rest : new.rest ≡ old.rest
  pub waits : new.waits ≡ old.waits

abbrev pub StageAt : Turn → Stage → Type 0
StageAt turns.Moved stage = IsGoing stage
StageAt turns.NotYet stage = IsGoing stage
StageAt (turns.Ended why) stage = stage ≡ stages.Over why

-- a session is stopped only where all are to end, and one that is turned away took nothing and was told so
abbrev pub HaltsFor : Bool → Turn → Sitting → Type 0
HaltsFor stopping turns.Moved s = Unit {0}
HaltsFor stopping turns.NotYet s = Unit {0}
HaltsFor stopping (turns.Ended why) s = (why ≡ ends.Stopped → stopping ≡ true) × (why ≡ ends.TooMany → TurnedAway (stopping ≡ true) s.id s.first s.flow)

-- after a turn
pub record Sat (stopping : Bool) (turn : Turn) (old new : Sitting) : Type 0 where
  pub id : new.id ≡ old.id
  pub first : new.first ≡ old.first
  pub stage : StageAt turn new.stage
  pub halts : HaltsFor stopping turn new
  pub served : StaysServed old.stage new.stage
  pub nearer : ComesNearer turn old new

-- a call that was served is due
abbrev pub IsDueAfter : Turn → Sitting → Type 0
IsDueAfter turns.Moved s = s.desk.calling.due ≡ true
IsDueAfter turns.NotYet s = s.desk.calling.due ≡ true
IsDueAfter (turns.Ended why) s = Unit {0}

-- what went over its link since it began is spoken by the calls that it was told
pub record HasSpoken (p : Parted) : Type 0 where
  pub bytes : Bytes
  pub wrote : Bytes
  pub taken : Appends p.first.taken p.flow.taken bytes
  pub written : Appends p.first.written p.flow.written wrote
  pub left : Spends p.first.left p.flow.left (length bytes)
  pub spoke : Spoke (session_of p.id p.why bytes wrote) (told_items p.told)
  pub proven : Proven p.why bytes p.first p.flow

pub record Left (s : Sitting) (p : Parted) : Type 0 where
  pub over : s.stage ≡ stages.Over p.why
  pub id : p.id ≡ s.id
  pub first : p.first ≡ s.first
  pub flow : p.flow ≡ s.flow
  pub told : p.told ≡ s.desk.ran
  pub spoken : HasSpoken p
