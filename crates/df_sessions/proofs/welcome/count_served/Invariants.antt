use Rattle.std.proofs.Common.{◌≡◌, ◌+◌, ◌≤◌, drop}
use Rattle.df_sessions.specs.AllSessions.{count_served}
use Rattle.df_sessions.proofs.welcome.count_served.Given as goal

abbrev pub invariant-seats : goal.invariant-seats
invariant-seats g l = (count_served l.fn.seats ≡ l.served + count_served (drop l.seat-index l.seats)) × (l.served ≤ l.seat-index)
