use Rattle.std.proofs.Common.{subst}
use Rattle.df_desk.specs.States.{Served}
use Rattle.df_sessions.specs.Sessions.{Sitting}
use Rattle.df_sessions.proofs.SeatLaws.{going_due}
use Rattle.df_sessions.proofs.seat.Seat+L+Desk.serve.Goals as goal

pub invariant_of-self : goal.invariant_of-self
invariant_of-self g c =
    let conn = c.self.inside.conn in
    going_due conn.id conn.stage conn.caller.calling c.serve.new.self.calling (g.L.Link.flow conn.first.value) (g.L.Link.flow conn.link) conn.talk c.serve.ensures.calling c.self.invariant

pub returns-clause-served : goal.returns-clause-served
returns-clause-served g c =
    subst (λ (v : Sitting). Served v.desk record { calling = c.serve.new.self.calling; ran = c.serve.new.self.ran } c.args.table.now.keys c.serve.new.table.keys) c.self.view_is c.serve.ensures
