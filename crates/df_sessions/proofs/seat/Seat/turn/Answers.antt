use Rattle.std.proofs.Common.{◌^◌, ◌<◌, length, refl, ap, subst, arith}
use Rattle.df_conn.specs.Turns.{Sight, see, waiting}
use Rattle.df_desk.specs.States.{DeskState}
use Rattle.df_sessions.specs.Sessions.{Sitting, Sat}
use Rattle.df_sessions.proofs.SeatLaws.{turned_going, turned_stage, turned_halts, turned_nearer}
use Rattle.df_sessions.proofs.seat.Seat.turn.Goals as goal

pub invariant_of-self : goal.invariant_of-self
invariant_of-self g c = turned_going c.turn-turn.result c.args.stopping _ _ c.turn-turn.ensures.turned

pub returns-clause-sat : goal.returns-clause-sat
returns-clause-sat g c =
    let was = c.self.inside.conn in
    let now = c.turn-turn.new.self in
    let turn = c.turn-turn.result in
    let stop = c.args.stopping in
    let old : Sight = see was.id was.stage (g.C.Caller.calling was.caller) (g.L.Link.flow was.first.value) (g.L.Link.flow was.link) was.talk in
    let new : Sight = see now.id now.stage (g.C.Caller.calling now.caller) (g.L.Link.flow now.first.value) (g.L.Link.flow now.link) now.talk in
    let before : DeskState = record { calling = g.C.Caller.calling was.caller; ran = g.C.Caller.ran was.caller } in
    let after : DeskState = record { calling = g.C.Caller.calling now.caller; ran = g.C.Caller.ran now.caller } in
    let below : waiting new < 2 ^ 64 = omega (arith, c.output_len-kept.ensures, c.output_len-kept.type_inv) in
    let t = c.turn-turn.ensures.turned in
    subst (λ (v : Sitting). Sat stop turn v record { id = now.id; stage = now.stage; desk = after; first = new.first; flow = new.flow; rest = length new.stream.rest; waits = waiting new }) c.self.view_is
    record {
      id = c.turn-turn.ensures.id;
      first = ap g.L.Link.flow c.turn-turn.ensures.first;
      stage = turned_stage turn stop old new t;
      halts = turned_halts turn stop old new after t;
      nearer = turned_nearer turn stop old new before after refl below t;
      served = c.turn-turn.ensures.served;
    }
