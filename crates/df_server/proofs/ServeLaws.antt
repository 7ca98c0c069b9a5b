-- The run of a door that was bound.
use Rattle.std.proofs.Common.{◌≡◌, ◌⊎◌, inl, inr, ℕ, Bool, true, List, sym, subst, arith}
use Rattle.std.specs.List.{AllByRecursion}
use Rattle.std.specs.Io.KnownBytes.{Appends}
use Rattle.df_model.specs.Keyspace.{no_keys}
use Rattle.df_model.specs.declared.session.Why.TheVariants as ends
use Rattle.df_outside.specs.Faults.{Rose}
use Rattle.df_outside.specs.Doors.{Hall, IsTold, StaysOpen}
use Rattle.df_sessions.specs.Sessions.{Parted}
use Rattle.df_sessions.specs.AllSessions.{AnyAsked, EndsFor, IsLate, Promises, IsToldSo}
use Rattle.df_sessions.specs.Entries.{GaveSince, IsDone, Since}
use Rattle.df_sessions.specs.declared.rounds.Entry.{Entry}
use Rattle.df_sessions.specs.declared.rounds.Entry.TheVariants as entries
use Rattle.df_sessions.proofs.ListLaws.{all_map}
use Rattle.df_sessions.proofs.SessionLaws.{told_also}
use Rattle.df_server.specs.Serve.{ServeRun, Opened, ready, status_for}

-- the status has its cause
cause_of : (entry : Entry) (asked : Bool) (status count : ℕ) (sessions : List Parted) (first old now : Hall) → status ≡ status_for entry → IsDone asked entry → EndsFor asked sessions → StaysOpen first old → Since old now count entry →
    ((status ≡ 0) × (AnyAsked sessions ⊎ IsTold true now.shut)) ⊎ ((status ≡ 6) × Rose first.faults now.faults)
cause_of entries.Open asked status count sessions first old now is done h stays since = inl (is, inl (h.by_one done))
cause_of entries.Closed asked status count sessions first old now is done h stays since = inl (is, inr since.entry_is)
cause_of entries.Failed asked status count sessions first old now is done h stays since = inr (is, omega (arith, since.entry_is, stays.faults))

pub has_served : (run : ServeRun) (old : Hall) (asked : Bool) (entry : Entry) (count : ℕ) (sessions : List Parted) → StaysOpen run.hall_before old → run.bound ≡ true → run.status ≡ status_for entry → run.sessions ≡ sessions →
    Appends run.output_before.written run.output.written ready → Since old run.hall count entry → IsDone asked entry → Promises no_keys count sessions → EndsFor asked sessions → AllByRecursion (IsLate sessions) sessions → Opened run
has_served run old asked entry count sessions stays bound status same says since done promises h late =
    let ended : EndsFor asked run.sessions = subst (EndsFor asked) (sym same) h in
    Opened.served (record {
      bound = bound;
      says_ready = says;
      count = count;
      given = subst (λ g. GaveSince g run.hall.given count) stays.given since.given;
      promises = subst (Promises no_keys count) (sym same) promises;
      stopped = all_map (λ (p : Parted). p.why ≡ ends.Stopped → asked ≡ true) (λ (p : Parted). p.why ≡ ends.Stopped → AnyAsked run.sessions) run.sessions (λ p f e. ended.by_one (f e)) ended.stopped;
      turned_away = all_map (IsToldSo (asked ≡ true)) (IsToldSo (AnyAsked run.sessions)) run.sessions (λ p f. told_also (asked ≡ true) (AnyAsked run.sessions) p ended.by_one f) ended.turned_away;
      late = subst (λ (l : List Parted). AllByRecursion (IsLate l) l) (sym same) late;
      cause = cause_of entry asked run.status count run.sessions run.hall_before old run.hall status done ended stays since;
    })
