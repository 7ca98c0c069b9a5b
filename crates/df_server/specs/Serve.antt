-- The server promise, for one worker over one table: what a run of `serve` printed, took in, served and answered.
use Rattle.std.specs.Prelude.{◌≡◌, ◌⊎◌, ℕ, ◌<◌, List, [], ◌∷◌, ◌++◌, Bool, true, false, Some, codes}
use Rattle.std.specs.List.{AllByRecursion}
use Rattle.std.specs.Io.KnownBytes.{Appends}
use Rattle.df_model.specs.Values.{Bytes}
use Rattle.df_model.specs.Keyspace.{no_keys}
use Rattle.df_model.specs.Numbers.{unsigned}
use Rattle.df_model.specs.declared.session.Why.TheVariants as ends
use Rattle.df_outside.specs.Faults.{Rose}
use Rattle.df_outside.specs.Streams.{Outflow}
use Rattle.df_outside.specs.Doors.{Hall, IsTold}
use Rattle.df_sessions.specs.Sessions.{Parted}
use Rattle.df_sessions.specs.AllSessions.{AnyAsked, Promises, IsToldSo, IsLate}
use Rattle.df_sessions.specs.Entries.{GaveSince}
use Rattle.df_sessions.specs.declared.rounds.Entry.{Entry}
use Rattle.df_sessions.specs.declared.rounds.Entry.TheVariants as entries
use Rattle.df_server.specs.Promise.{usage}
use Rattle.df_print.specs.Writes.{LineStatus, WroteFront}

-- ---- the words of the command line

-- a canonical decimal from 1 to 65535
abbrev pub IsPort : Bytes → ℕ → Type 0
IsPort digits port = (unsigned digits ≡ Some port) × (0 < port) × (port < 65536)

-- the words behind `serve`
abbrev pub NamesPort : List Bytes → ℕ → Type 0
NamesPort [] port = port ≡ 6379
NamesPort (word ∷ []) port = (digits : Bytes) × (word ≡ codes "--port=" ++ digits) × IsPort digits port
NamesPort (name ∷ digits ∷ []) port = (name ≡ codes "--port") × IsPort digits port
NamesPort (a ∷ b ∷ c ∷ more) port = ⊥

abbrev pub IsServe : List Bytes → ℕ → Type 0
IsServe [] port = ⊥
IsServe (name ∷ words) port = (name ≡ codes "serve") × NamesPort words port

-- ---- a run

-- a run as it is seen from outside: its status, whether the door was bound, the door and the output before and after
-- it, and the sessions in the order of their ends
pub record ServeRun : Type 0 where
  pub status : ℕ
  pub bound : Bool
  pub hall_before : Hall
  pub hall : Hall
  pub output_before : Outflow
  pub output : Outflow
  pub sessions : List Parted

abbrev pub LineGiven : Bytes → ℕ → ServeRun → Type 0
LineGiven line wanted run = LineStatus line wanted run.status run.output_before run.output

abbrev pub ready : Bytes
ready = codes "ready" ++ 10 ∷ []

abbrev pub door_fault : Bytes
door_fault = codes "door fault" ++ 10 ∷ []

-- nobody was let in
pub record LetsNobodyIn (run : ServeRun) : Type 0 where
  pub given : run.hall.given ≡ run.hall_before.given
  pub none : run.sessions ≡ []

-- the door was not bound: want of memory, or a fault of the door and a line that says so
pub record NotBound (run : ServeRun) : Type 0 where
  pub nobody : LetsNobodyIn run
  pub unbound : run.bound ≡ false
  pub cause : ((run.status ≡ 4) × (run.output ≡ run.output_before)) ⊎ (LineGiven door_fault 6 run × Rose run.hall_before.faults run.hall.faults)

-- the door was bound, and the line that says so found a fault or no memory
pub record NotReady (run : ServeRun) : Type 0 where
  pub nobody : LetsNobodyIn run
  pub bound : run.bound ≡ true
  pub front : WroteFront ready run.output_before run.output
  pub cause : ((run.status ≡ 8) × Rose run.output_before.faults run.output.faults) ⊎ (run.status ≡ 4)

-- all links that the door gave are sessions; there is one list of their calls, legal from the empty keyspace and
-- ordered, and what went over each link is a front of the output of its session over its own calls
pub record HasServed (run : ServeRun) : Type 0 where
  pub bound : run.bound ≡ true
  pub says_ready : Appends run.output_before.written run.output.written ready
  pub count : ℕ
  pub given : GaveSince run.hall_before.given run.hall.given count
  pub promises : Promises no_keys count run.sessions
  -- a session was stopped only where one asked for the end of all
  pub stopped : AllByRecursion (λ (p : Parted). p.why ≡ ends.Stopped → AnyAsked run.sessions) run.sessions
  -- a session that was turned away took nothing and was told so, unless a write failed or one asked for the end of all
  pub turned_away : AllByRecursion (IsToldSo (AnyAsked run.sessions)) run.sessions
  -- and as many came before it that were not turned away as are served together at the most
  pub late : AllByRecursion (IsLate run.sessions) run.sessions
  pub cause : ((run.status ≡ 0) × (AnyAsked run.sessions ⊎ IsTold true run.hall.shut)) ⊎ ((run.status ≡ 6) × Rose run.hall_before.faults run.hall.faults)

-- words that are no `serve`: nothing but the usage line
pub record IsRefused (run : ServeRun) : Type 0 where
  pub nobody : LetsNobodyIn run
  pub unbound : run.bound ≡ false
  pub line : LineGiven usage 2 run

-- how a run with the words of `serve` came out
pub data Opened (run : ServeRun) : Type 0 where
  not_bound : NotBound run → Opened run
  not_ready : NotReady run → Opened run
  served : HasServed run → Opened run

abbrev pub ServePromise : List Bytes → ServeRun → Type 0
ServePromise words run =
    (((port : ℕ) → ¬ (IsServe words port)) × IsRefused run)
    ⊎ (((port : ℕ) × IsServe words port) × Opened run)

-- the status of a run whose door was bound
abbrev pub status_for : Entry → ℕ
status_for entries.Open = 0
status_for entries.Closed = 0
status_for entries.Failed = 6
