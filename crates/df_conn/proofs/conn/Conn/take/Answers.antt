use Rattle.df_conn.specs.Turns.{Sight, see, Rests}
use Rattle.df_conn.proofs.RestLaws.{rests_going, rests_turned}
use Rattle.df_conn.proofs.AwayLaws.{served_through}
use Rattle.df_conn.proofs.conn.Conn.take.Goals as goal

pub write-requires-clause-going : goal.write-requires-clause-going
write-requires-clause-going g c κs within =
    let s : Sight = see c.args.self.now.id c.args.self.now.stage (g.C.Caller.calling c.args.self.now.caller) (g.L.Link.flow c.args.self.now.first.value) (g.L.Link.flow c.args.self.now.link) c.args.self.now.talk in
    let middle : Sight = see c.take_next.new.self.id c.take_next.new.self.stage (g.C.Caller.calling c.take_next.new.self.caller) (g.L.Link.flow c.take_next.new.self.first.value) (g.L.Link.flow c.take_next.new.self.link) c.take_next.new.self.talk in
    let rests : Rests c.take_next.new.self.stage s middle = c.in_default.ensures.rests in
    rests_going c.take_next.new.self.stage s middle rests

pub returns-then-waiting-gt0-clause-turned : goal.returns-then-waiting-gt0-clause-turned
returns-then-waiting-gt0-clause-turned g c =
    let s : Sight = see c.args.self.now.id c.args.self.now.stage (g.C.Caller.calling c.args.self.now.caller) (g.L.Link.flow c.args.self.now.first.value) (g.L.Link.flow c.args.self.now.link) c.args.self.now.talk in
    let middle : Sight = see c.take_next.new.self.id c.take_next.new.self.stage (g.C.Caller.calling c.take_next.new.self.caller) (g.L.Link.flow c.take_next.new.self.first.value) (g.L.Link.flow c.take_next.new.self.link) c.take_next.new.self.talk in
    let rests : Rests c.take_next.new.self.stage s middle = c.in_default.ensures.rests in
    rests_turned c.take_next.new.self.stage c.write.result c.args.stopping s middle (see c.write.new.self.id c.write.new.self.stage (g.C.Caller.calling c.write.new.self.caller) (g.L.Link.flow c.write.new.self.first.value) (g.L.Link.flow c.write.new.self.link) c.write.new.self.talk) rests c.write.ensures.turned

pub returns-in-Closing-clause-turned : goal.returns-in-Closing-clause-turned
returns-in-Closing-clause-turned g c =
    let s : Sight = see c.args.self.now.id c.args.self.now.stage (g.C.Caller.calling c.args.self.now.caller) (g.L.Link.flow c.args.self.now.first.value) (g.L.Link.flow c.args.self.now.link) c.args.self.now.talk in
    let middle : Sight = see c.take_next.new.self.id c.take_next.new.self.stage (g.C.Caller.calling c.take_next.new.self.caller) (g.L.Link.flow c.take_next.new.self.first.value) (g.L.Link.flow c.take_next.new.self.link) c.take_next.new.self.talk in
    let rests : Rests c.take_next.new.self.stage s middle = c.in_default.ensures.rests in
    rests_turned c.take_next.new.self.stage c.close.result c.args.stopping s middle (see c.close.new.self.id c.close.new.self.stage (g.C.Caller.calling c.close.new.self.caller) (g.L.Link.flow c.close.new.self.first.value) (g.L.Link.flow c.close.new.self.link) c.close.new.self.talk) rests c.close.ensures.turned

pub returns-in-Open-clause-turned : goal.returns-in-Open-clause-turned
returns-in-Open-clause-turned g c =
    let s : Sight = see c.args.self.now.id c.args.self.now.stage (g.C.Caller.calling c.args.self.now.caller) (g.L.Link.flow c.args.self.now.first.value) (g.L.Link.flow c.args.self.now.link) c.args.self.now.talk in
    let middle : Sight = see c.take_next.new.self.id c.take_next.new.self.stage (g.C.Caller.calling c.take_next.new.self.caller) (g.L.Link.flow c.take_next.new.self.first.value) (g.L.Link.flow c.take_next.new.self.link) c.take_next.new.self.talk in
    let rests : Rests c.take_next.new.self.stage s middle = c.in_default.ensures.rests in
    rests_turned c.take_next.new.self.stage c.read.result c.args.stopping s middle (see c.read.new.self.id c.read.new.self.stage (g.C.Caller.calling c.read.new.self.caller) (g.L.Link.flow c.read.new.self.first.value) (g.L.Link.flow c.read.new.self.link) c.read.new.self.talk) rests c.read.ensures.turned

pub returns-then-waiting-gt0-clause-served : goal.returns-then-waiting-gt0-clause-served
returns-then-waiting-gt0-clause-served g c =
    let s : Sight = see c.args.self.now.id c.args.self.now.stage (g.C.Caller.calling c.args.self.now.caller) (g.L.Link.flow c.args.self.now.first.value) (g.L.Link.flow c.args.self.now.link) c.args.self.now.talk in
    let middle : Sight = see c.take_next.new.self.id c.take_next.new.self.stage (g.C.Caller.calling c.take_next.new.self.caller) (g.L.Link.flow c.take_next.new.self.first.value) (g.L.Link.flow c.take_next.new.self.link) c.take_next.new.self.talk in
    served_through c.args.self.now.stage c.take_next.new.self.stage c.write.new.self.stage s middle c.in_default.ensures.rests c.take_next.ensures.served c.write.ensures.served

pub returns-in-Closing-clause-served : goal.returns-in-Closing-clause-served
returns-in-Closing-clause-served g c =
    let s : Sight = see c.args.self.now.id c.args.self.now.stage (g.C.Caller.calling c.args.self.now.caller) (g.L.Link.flow c.args.self.now.first.value) (g.L.Link.flow c.args.self.now.link) c.args.self.now.talk in
    let middle : Sight = see c.take_next.new.self.id c.take_next.new.self.stage (g.C.Caller.calling c.take_next.new.self.caller) (g.L.Link.flow c.take_next.new.self.first.value) (g.L.Link.flow c.take_next.new.self.link) c.take_next.new.self.talk in
    served_through c.args.self.now.stage c.take_next.new.self.stage c.close.new.self.stage s middle c.in_default.ensures.rests c.take_next.ensures.served c.close.ensures.served

pub returns-in-Open-clause-served : goal.returns-in-Open-clause-served
returns-in-Open-clause-served g c =
    let s : Sight = see c.args.self.now.id c.args.self.now.stage (g.C.Caller.calling c.args.self.now.caller) (g.L.Link.flow c.args.self.now.first.value) (g.L.Link.flow c.args.self.now.link) c.args.self.now.talk in
    let middle : Sight = see c.take_next.new.self.id c.take_next.new.self.stage (g.C.Caller.calling c.take_next.new.self.caller) (g.L.Link.flow c.take_next.new.self.first.value) (g.L.Link.flow c.take_next.new.self.link) c.take_next.new.self.talk in
    served_through c.args.self.now.stage c.take_next.new.self.stage c.read.new.self.stage s middle c.in_default.ensures.rests c.take_next.ensures.served c.read.ensures.served
