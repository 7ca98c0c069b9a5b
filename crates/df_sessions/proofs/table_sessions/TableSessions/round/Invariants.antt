use Rattle.std.proofs.Common.{◌≡◌, ◌≤◌, length}
use Rattle.df_sessions.proofs.table_sessions.TableSessions.round.Given as goal

abbrev pub invariant-seats : goal.invariant-seats
invariant-seats g l = (l.at ≤ length l.self.seats) × (l.self.start ≡ l.fn.self.start) × (l.self.count ≡ l.fn.self.count)

abbrev pub decreases-seats : goal.decreases-seats
decreases-seats g l = l.at
