use Rattle.std.proofs.Common.{◌≡◌}
use Rattle.df_outside.specs.Doors.{Hall}
use Rattle.df_sessions.specs.Entries.{Since}
use Rattle.df_sessions.specs.declared.rounds.Entry.TheVariants as entries
use Rattle.df_sessions.proofs.rounds.welcome.Given as goal

abbrev pub invariant-links : goal.invariant-links
invariant-links g l =
    (l.sessions.start ≡ l.fn.sessions.start)
    × ((first : Hall) → Since first (g.D.Poller.hall l.fn.door) l.fn.sessions.count entries.Open → Since first (g.D.Poller.hall l.door) l.sessions.count entries.Open)
