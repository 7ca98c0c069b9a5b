-- All sessions of one table, open and ended, and the one list of their calls.
use Rattle.std.specs.Prelude.{◌≡◌, ◌⊎◌, ℕ, ◌+◌, ◌≤◌, ◌<◌, Bool, true, false, cond, eqb, ltb, List, [], ◌∷◌, ◌++◌}
use Rattle.std.specs.List.{AllByRecursion, sum_by}
use Rattle.std.specs.Io.KnownBytes.{Appends}
use Rattle.df_model.specs.Values.{Bytes}
use Rattle.df_model.specs.Keyspace.{Keyspace}
use Rattle.df_model.specs.Calls.{Allowed}
use Rattle.df_model.specs.History.{Item, IsLegal, IsOrdered, each_call}
use Rattle.df_model.specs.Spoken.{Session, Spoke, MAX_OPEN}
use Rattle.df_model.specs.declared.session.Turn.{Turn}
use Rattle.df_model.specs.declared.session.Turn.TheVariants as turns
use Rattle.df_model.specs.declared.session.Why.{Why}
use Rattle.df_model.specs.declared.session.Why.TheVariants as ends
use Rattle.df_outside.specs.Doors.{IsFresh}
use Rattle.df_caller.specs.Told.{Told}
use Rattle.df_conn.specs.Turns.{IsGoing, Proven, TurnedAway, is_away, is_too_many, session_of}
use Rattle.df_desk.specs.OneTable.{OneTable, of_session}
use Rattle.df_sessions.specs.Sessions.{Sitting, Parted, HasSpoken}

-- 1 at this number, and 0 at others
abbrev pub at_id : ℕ → ℕ → ℕ
at_id id n = cond (eqb id n) 1 0

-- 1 below this count
abbrev pub at_below : ℕ → ℕ → ℕ
at_below count n = cond (ltb n count) 1 0

abbrev pub open_at : ℕ → List Sitting → ℕ
open_at id seats = sum_by (λ (s : Sitting). at_id id s.id) seats

abbrev pub gone_at : ℕ → List Parted → ℕ
gone_at id gone = sum_by (λ (p : Parted). at_id id p.id) gone

-- what all sessions ran is one list, and each place that was given is one session's, open or ended
pub record Holds (K0 K : Keyspace) (count : ℕ) (seats : List Sitting) (gone : List Parted) : Type 0 where
  pub items : List Item
  pub ran : ℕ → List Told
  pub table : OneTable K0 K items ran
  pub below : AllByRecursion (λ (i : Item). i.session < count) items
  pub fresh : (id : ℕ) → count ≤ id → ran id ≡ []
  pub once : (id : ℕ) → open_at id seats + gone_at id gone ≡ at_below count id
  pub open_ran : AllByRecursion (λ (s : Sitting). ran s.id ≡ s.desk.ran) seats
  pub gone_ran : AllByRecursion (λ (p : Parted). ran p.id ≡ p.told) gone
  pub spoken : AllByRecursion HasSpoken gone
  -- each link was as a door gives it when its session began
  pub open_fresh : AllByRecursion (λ (s : Sitting). IsFresh s.first) seats
  pub gone_fresh : AllByRecursion (λ (p : Parted). IsFresh p.first) gone

-- one call more ran, or none
abbrev pub Ran : List Told → List Told → Keyspace → Keyspace → Type 0
Ran old new K after = ((new ≡ old) × (after ≡ K)) ⊎ ((t : Told) × (marks : List Bool) × (new ≡ old ++ t ∷ []) × Allowed t.call marks K t.reply after)

-- the sessions of one table, from its keyspace at the start: those that are open, those that ended, and whether one
-- of them asked for the end of all
pub record AllSessions : Type 0 where
  pub start : Keyspace
  pub keys : Keyspace
  pub count : ℕ
  pub seats : List Sitting
  pub gone : List Parted
  pub asked : Bool

-- where a session ended, one fewer is open
abbrev pub LeavesSeats : Turn → ℕ → ℕ → Type 0
LeavesSeats turns.Moved before now = now ≡ before
LeavesSeats turns.NotYet before now = now ≡ before
LeavesSeats (turns.Ended why) before now = now + 1 ≡ before

abbrev pub AllGoing : List Sitting → Type 0
AllGoing seats = AllByRecursion (λ (s : Sitting). IsGoing s.stage) seats

-- ---- who is turned away

-- how many of the open sessions are served
abbrev pub count_served : List Sitting → ℕ
count_served seats = sum_by (λ (s : Sitting). cond (is_away s.stage) 0 1) seats

-- 1 for a session that is served, or was, with a place before this one
abbrev pub open_before : ℕ → Sitting → ℕ
open_before n s = cond (is_away s.stage) 0 (at_below n s.id)

abbrev pub gone_before : ℕ → Parted → ℕ
gone_before n p = cond (is_too_many p.why) 0 (at_below n p.id)

abbrev pub served_before : ℕ → List Sitting → List Parted → ℕ
served_before n seats gone = sum_by (open_before n) seats + sum_by (gone_before n) gone

-- no more are served at once than may be, and a session is turned away only behind as many that are served, or were
pub record Crowd (count : ℕ) (seats : List Sitting) (gone : List Parted) : Type 0 where
  pub most : count_served seats ≤ MAX_OPEN
  pub below : AllByRecursion (λ (s : Sitting). s.id < count) seats
  pub open_late : AllByRecursion (λ (s : Sitting). is_away s.stage ≡ true → MAX_OPEN ≤ served_before s.id seats gone) seats
  pub gone_late : AllByRecursion (λ (p : Parted). is_too_many p.why ≡ true → MAX_OPEN ≤ served_before p.id seats gone) gone

-- a session that was turned away had so many before it that were not
abbrev pub IsLate : List Parted → Parted → Type 0
IsLate gone p = p.why ≡ ends.TooMany → MAX_OPEN ≤ sum_by (gone_before p.id) gone

-- a session came in: it is served where fewer are than may be, and turned away exactly where as many are
abbrev pub Enters : List Sitting → List Sitting → Type 0
Enters old new = (s : Sitting) × (new ≡ old ++ s ∷ []) × (((is_away s.stage ≡ false) × (count_served old < MAX_OPEN)) ⊎ ((is_away s.stage ≡ true) × (count_served old ≡ MAX_OPEN)))

-- ---- why sessions ended

abbrev pub AnyAsked : List Parted → Type 0
AnyAsked [] = ⊥
AnyAsked (p ∷ gone) = (p.why ≡ ends.Asked) ⊎ AnyAsked gone

-- whether one asked, now that a session ended so
abbrev pub asks_with : Bool → Why → Bool
asks_with asked ends.Asked = true
asks_with asked ends.InputEnd = asked
asks_with asked ends.Quit = asked
asks_with asked ends.Stopped = asked
asks_with asked (ends.Protocol kind at) = asked
asks_with asked ends.ReadFault = asked
asks_with asked ends.WriteFault = asked
asks_with asked ends.TooMany = asked
asks_with asked ends.Spent = asked
asks_with asked ends.NoMemory = asked

-- where it was turned away: what that means
abbrev pub IsToldSo : Type 0 → Parted → Type 0
IsToldSo Halts p = p.why ≡ ends.TooMany → TurnedAway Halts p.id p.first p.flow

-- where all are to end, one asked for it; a session was stopped only then, and one that was turned away took nothing and
-- was told so
pub record EndsFor (asked : Bool) (gone : List Parted) : Type 0 where
  pub by_one : asked ≡ true → AnyAsked gone
  pub stopped : AllByRecursion (λ (p : Parted). p.why ≡ ends.Stopped → asked ≡ true) gone
  pub turned_away : AllByRecursion (IsToldSo (asked ≡ true)) gone

-- ---- the end

-- what went over the link of this session is the output of its items
pub record HasItems (items : List Item) (p : Parted) : Type 0 where
  pub fresh : IsFresh p.first
  pub bytes : Bytes
  pub wrote : Bytes
  pub taken : Appends p.first.taken p.flow.taken bytes
  pub written : Appends p.first.written p.flow.written wrote
  pub spoke : Spoke (session_of p.id p.why bytes wrote) (of_session p.id items)
  pub proven : Proven p.why bytes p.first p.flow

-- all calls are one list, legal and ordered; each session's output is that of its items; each place below the count is
-- one session's; and each item is of one of them
pub record Promises (K0 : Keyspace) (count : ℕ) (gone : List Parted) : Type 0 where
  pub items : List Item
  pub legal : IsLegal K0 items
  pub ordered : IsOrdered each_call items
  pub spoke : AllByRecursion (HasItems items) gone
  pub once : (id : ℕ) → gone_at id gone ≡ at_below count id
  pub placed : AllByRecursion (λ (i : Item). gone_at i.session gone ≡ 1) items

-- ---- the same, over sessions alone

abbrev pub IsOneOf : List Session → Session → Type 0
IsOneOf [] w = ⊥
IsOneOf (x ∷ sessions) w = (x ≡ w) ⊎ IsOneOf sessions w

-- one list for all sessions: legal from the keyspace, in order, each session's output is that of its items, and each
-- item is of one of them
pub record ListPromise (K : Keyspace) (items : List Item) (sessions : List Session) : Type 0 where
  pub legal : IsLegal K items
  pub ordered : IsOrdered each_call items
  pub spoke : AllByRecursion (λ (w : Session). Spoke w (of_session w.id items)) sessions
  pub placed : AllByRecursion (λ (i : Item). (w : Session) × IsOneOf sessions w × (w.id ≡ i.session)) items

-- what is known of the ended sessions makes sessions of the same places, in the same order
abbrev pub sessions_of : (items : List Item) (gone : List Parted) → AllByRecursion (HasItems items) gone → List Session
sessions_of items [] all = []
sessions_of items (p ∷ gone) all = session_of p.id p.why all.0.bytes all.0.wrote ∷ sessions_of items gone all.1

abbrev pub PromisesAList : Type 0
PromisesAList = (K0 : Keyspace) (count : ℕ) (gone : List Parted) (p : Promises K0 count gone) → ListPromise K0 p.items (sessions_of p.items gone p.spoke)
