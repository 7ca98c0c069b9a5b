-- A session that has a table of its own, from the empty keyspace.
use Rattle.std.specs.Prelude.{◌≡◌, ℕ, Bool, true, false, List, is_some}
use Rattle.std.specs.List.{AllByRecursion}
use Rattle.df_model.specs.Keyspace.{Keyspace, no_keys}
use Rattle.df_model.specs.History.{Item, IsLegal, IsOrdered, each_call}
use Rattle.df_model.specs.Spoken.{Spoke}
use Rattle.df_model.specs.declared.session.Why.{Why}
use Rattle.df_model.specs.declared.session.Why.TheVariants as ends
use Rattle.df_outside.specs.Links.{Flow}
use Rattle.df_caller.specs.Told.{Told}
use Rattle.df_conn.specs.Turns.{IsGoing, session_of}
use Rattle.df_desk.specs.OneTable.{OneTable}
use Rattle.df_sessions.specs.Sessions.{Sitting, Parted, HasSpoken}
use Rattle.df_server.specs.Promise.{IsNumbered}

-- all calls that ran on the table are its own, and led here
pub record RanAlone (K : Keyspace) (own : List Told) : Type 0 where
  pub items : List Item
  pub ran : ℕ → List Told
  pub ran_is : ran 0 ≡ own
  pub table : OneTable no_keys K items ran
  pub each : AllByRecursion (λ (i : Item). i.session ≡ 0) items

-- Between its turns: what its calls did to the table, and that it comes to an end. Its link has a limit, and the outcome
-- of its call, where one is under way, is due.
pub record PipeHolds (first : Flow) (K : Keyspace) (s : Sitting) : Type 0 where
  pub id : s.id ≡ 0
  pub first_is : s.first ≡ first
  pub going : IsGoing s.stage
  pub limited : is_some s.flow.left ≡ true
  pub due : s.desk.calling.due ≡ true
  pub ran : RanAlone K s.desk.ran

-- it ended: its calls are one list, legal and ordered, and what went over its link is the output of their items
pub record ServedAlone (first : Flow) (p : Parted) : Type 0 where
  pub first_is : p.first ≡ first
  pub not_stopped : p.why ≡ ends.Stopped → ⊥
  pub let_in : p.why ≡ ends.TooMany → ⊥
  pub items : List Item
  pub legal : IsLegal no_keys items
  pub ordered : IsOrdered each_call items
  pub numbered : IsNumbered 0 items
  pub spoken : HasSpoken p
  pub spoke : Spoke (session_of 0 p.why spoken.bytes spoken.wrote) items

-- ---- the status

abbrev pub status_for : Why → Bool → ℕ
status_for ends.InputEnd spent = 0
status_for ends.Quit spent = 0
status_for ends.Asked spent = 0
status_for (ends.Protocol kind at) spent = 1
status_for ends.NoMemory spent = 4
status_for ends.Spent spent = 4
status_for ends.Stopped spent = 4
status_for ends.TooMany spent = 4
status_for ends.WriteFault spent = 8
status_for ends.ReadFault true = 9
status_for ends.ReadFault false = 7

-- the end as the promise tells it: a pipe's calls have no numbers that could be spent, and one that found none would be
-- as one that found no memory
abbrev pub told_end : Why → Why
told_end ends.InputEnd = ends.InputEnd
told_end ends.Quit = ends.Quit
told_end ends.Asked = ends.Asked
told_end ends.Stopped = ends.Stopped
told_end (ends.Protocol kind at) = ends.Protocol kind at
told_end ends.ReadFault = ends.ReadFault
told_end ends.WriteFault = ends.WriteFault
told_end ends.TooMany = ends.TooMany
told_end ends.Spent = ends.NoMemory
told_end ends.NoMemory = ends.NoMemory
