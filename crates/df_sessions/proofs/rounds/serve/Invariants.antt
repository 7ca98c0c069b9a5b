use Rattle.std.proofs.Common.{◌≡◌}
use Rattle.df_sessions.specs.Entries.{Since}
use Rattle.df_sessions.proofs.rounds.serve.Given as goal

abbrev pub invariant-rounds : goal.invariant-rounds
invariant-rounds g l =
    (goal.iterator-rounds g).can_next l.iterator' × (goal.iterator-rounds g).is_finite l.iterator'
    × (l.sessions.start ≡ l.fn.table.keys) × Since (g.D.Poller.hall l.fn.door) (g.D.Poller.hall l.door) l.sessions.count l.entry
