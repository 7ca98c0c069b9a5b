use Rattle.df_sessions.proofs.SeatLaws.{ran_after, sat_after, due_after, due_served}
use Rattle.df_sessions.proofs.seat.Seat+L+Desk.go_on.Goals as goal

pub returns-in-Moved : goal.returns-in-Moved
returns-in-Moved g c = record {
  sat = sat_after c.args.stopping c.turn-turn.result c.args.self.now c.turn-turn.new.self c.serve.new.self c.turn-turn.ensures.sat c.serve.ensures.same;
  ran = ran_after c.args.self.now.desk c.turn-turn.new.self.desk c.serve.new.self.desk c.args.table.now.keys c.serve.new.table.keys c.turn-turn.ensures.ran c.serve.ensures.served;
  due = due_after c.turn-turn.result c.serve.new.self (due_served c.turn-turn.new.self.desk c.serve.new.self.desk c.args.table.now.keys c.serve.new.table.keys c.serve.ensures.served);
}

pub returns-in-NotYet : goal.returns-in-NotYet
returns-in-NotYet g c = record {
  sat = sat_after c.args.stopping c.turn-turn.result c.args.self.now c.turn-turn.new.self c.serve-in-NotYet.new.self c.turn-turn.ensures.sat c.serve-in-NotYet.ensures.same;
  ran = ran_after c.args.self.now.desk c.turn-turn.new.self.desk c.serve-in-NotYet.new.self.desk c.args.table.now.keys c.serve-in-NotYet.new.table.keys c.turn-turn.ensures.ran c.serve-in-NotYet.ensures.served;
  due = due_after c.turn-turn.result c.serve-in-NotYet.new.self (due_served c.turn-turn.new.self.desk c.serve-in-NotYet.new.self.desk c.args.table.now.keys c.serve-in-NotYet.new.table.keys c.serve-in-NotYet.ensures.served);
}
