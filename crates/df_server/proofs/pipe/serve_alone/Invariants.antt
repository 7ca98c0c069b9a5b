use Rattle.df_sessions.specs.Sessions.{work_of}
use Rattle.df_server.specs.Alone.{PipeHolds}
use Rattle.df_server.proofs.pipe.serve_alone.Given as goal

abbrev pub invariant-turns : goal.invariant-turns
invariant-turns g l = PipeHolds l.fn.seat.first l.table.keys l.seat

abbrev pub decreases-turns : goal.decreases-turns
decreases-turns g l = work_of l.seat
