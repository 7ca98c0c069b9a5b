use Rattle.std.proofs.Common.{◌≡◌, ◌<◌, length}
use Rattle.df_sessions.proofs.table_sessions.TableSessions.visit.Given as goal

abbrev pub invariant-turns : goal.invariant-turns
invariant-turns g l = (l.at < length l.self.seats) × (l.self.start ≡ l.fn.self.start) × (l.self.count ≡ l.fn.self.count)
