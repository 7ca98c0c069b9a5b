-- How links come in, and what is known of the door since the start.
use Rattle.std.specs.Prelude.{◌≡◌, ℕ, ◌+◌, ◌≤◌, Bool, true, List, Option, Some, None}
use Rattle.df_outside.specs.Faults.{Rose}
use Rattle.df_outside.specs.Doors.{Hall, OneMore, IsTold, StaysOpen}
use Rattle.df_sessions.specs.Sessions.{Sitting}
use Rattle.df_sessions.specs.AllSessions.{Enters}
use Rattle.df_sessions.specs.declared.table_sessions.Met.{Met}
use Rattle.df_sessions.specs.declared.table_sessions.Met.TheVariants as met
use Rattle.df_sessions.specs.declared.rounds.Entry.{Entry}
use Rattle.df_sessions.specs.declared.rounds.Entry.TheVariants as entries

-- what one look at the door came to
abbrev pub Meets : Met → Hall → Hall → ℕ → ℕ → Type 0
Meets met.Entered old new before now = OneMore old.given new.given × (old.faults ≤ new.faults) × (now ≡ before + 1)
Meets met.Nobody old new before now = StaysOpen old new × (now ≡ before)
Meets met.Closed old new before now = (new.given ≡ old.given) × (old.faults ≤ new.faults) × (now ≡ before) × IsTold true new.shut
Meets met.Failed old new before now = StaysOpen old new × (now ≡ before) × Rose old.faults new.faults

-- who is open after one look at the door
abbrev pub EntersFor : Met → List Sitting → List Sitting → Type 0
EntersFor met.Entered old new = Enters old new
EntersFor met.Nobody old new = new ≡ old
EntersFor met.Closed old new = new ≡ old
EntersFor met.Failed old new = new ≡ old

-- so many links were handed out since, where that is told
abbrev pub GaveSince : Option ℕ → Option ℕ → ℕ → Type 0
GaveSince None None n = Unit {0}
GaveSince (Some a) (Some b) n = b ≡ a + n
GaveSince None (Some b) n = ⊥
GaveSince (Some a) None n = ⊥

-- why no more links are taken in
abbrev pub EntryFor : Entry → Hall → Hall → Type 0
EntryFor entries.Open first now = Unit {0}
EntryFor entries.Closed first now = IsTold true now.shut
EntryFor entries.Failed first now = Rose first.faults now.faults

-- each link that was handed out since is a session's
pub record Since (first now : Hall) (count : ℕ) (entry : Entry) : Type 0 where
  pub given : GaveSince first.given now.given count
  pub faults : first.faults ≤ now.faults
  pub entry_is : EntryFor entry first now

-- a run ends where a session asked for it, or no more links come
abbrev pub IsDone : Bool → Entry → Type 0
IsDone asked entries.Open = asked ≡ true
IsDone asked entries.Closed = Unit {0}
IsDone asked entries.Failed = Unit {0}
