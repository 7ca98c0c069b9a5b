use Rattle.std.proofs.Common.{◌<◌, length, take, arith}
use Rattle.std.proofs.lemmas.List.{length-take}
use Rattle.df_model.specs.Values.{Bytes}
use Rattle.df_model.specs.declared.session.Why.TheVariants as ends
use Rattle.df_conn.specs.Turns.{Sight, see}
use Rattle.df_conn.proofs.FlowLaws.{proven_read_fault}
use Rattle.df_conn.proofs.LinkLaws.{got_some, got_no_room, got_end, got_waits, got_none, on_ok}
use Rattle.df_conn.proofs.conn.Conn.read.Goals as goal

pub returns-then-is_err-clause-turned : goal.returns-then-is_err-clause-turned
returns-then-is_err-clause-turned g c =
    let s : Sight = see c.args.self.now.id c.args.self.now.stage (g.C.Caller.calling c.args.self.now.caller) (g.L.Link.flow c.args.self.now.first.value) (g.L.Link.flow c.args.self.now.link) c.args.self.now.talk in
    got_no_room c.args.stopping s (g.L.Link.flow c.read.new.self) c.feed.new.self (take c.in-Took.count c.read.new.buf) c.requires.dry.0.0 c.requires.open c.in-Took.ensures.2

pub returns-else-is_err-clause-turned : goal.returns-else-is_err-clause-turned
returns-else-is_err-clause-turned g c =
    let s : Sight = see c.args.self.now.id c.args.self.now.stage (g.C.Caller.calling c.args.self.now.caller) (g.L.Link.flow c.args.self.now.first.value) (g.L.Link.flow c.args.self.now.link) c.args.self.now.talk in
    let piece : Bytes = take c.in-Took.count c.read.new.buf in
    let some : 0 < length piece = omega (arith, length-take c.in-Took.count c.read.new.buf, c.in-Took.ensures.0, c.in-Took.ensures.1) in
    got_some c.args.stopping s (g.L.Link.flow c.read.new.self) c.feed.new.self piece c.requires.dry.0.0 c.requires.open some c.in-Took.ensures.2 (on_ok c.feed.result c.if-is_err.ensures.value c.feed.ensures.rest) c.feed.ensures.before c.feed.ensures.failed

pub returns-in-End-clause-turned : goal.returns-in-End-clause-turned
returns-in-End-clause-turned g c =
    let s : Sight = see c.args.self.now.id c.args.self.now.stage (g.C.Caller.calling c.args.self.now.caller) (g.L.Link.flow c.args.self.now.first.value) (g.L.Link.flow c.args.self.now.link) c.args.self.now.talk in
    got_end c.args.stopping s (g.L.Link.flow c.read.new.self) c.requires.dry.0.0 c.requires.open c.requires.dry.0.1 c.requires.none c.in-End.ensures.0 c.in-End.ensures.1

pub returns-in-NotYet-clause-turned : goal.returns-in-NotYet-clause-turned
returns-in-NotYet-clause-turned g c =
    let s : Sight = see c.args.self.now.id c.args.self.now.stage (g.C.Caller.calling c.args.self.now.caller) (g.L.Link.flow c.args.self.now.first.value) (g.L.Link.flow c.args.self.now.link) c.args.self.now.talk in
    got_waits c.args.stopping s (g.L.Link.flow c.read.new.self) c.requires.dry.0.0 c.requires.open c.in-NotYet.ensures.0 c.in-NotYet.ensures.2 c.in-NotYet.ensures.3

pub returns-in-Failed-clause-turned : goal.returns-in-Failed-clause-turned
returns-in-Failed-clause-turned g c =
    let s : Sight = see c.args.self.now.id c.args.self.now.stage (g.C.Caller.calling c.args.self.now.caller) (g.L.Link.flow c.args.self.now.first.value) (g.L.Link.flow c.args.self.now.link) c.args.self.now.talk in
    got_none c.args.stopping ends.ReadFault s (g.L.Link.flow c.read.new.self) c.requires.dry.0.0 c.requires.open c.in-Failed.ensures.0 tt (λ f. proven_read_fault s.first s.flow (g.L.Link.flow c.read.new.self) s.output s.sent f c.in-Failed.ensures.1 c.in-Failed.ensures.2) c.in-Failed.ensures.2

pub returns-in-NoMemory-clause-turned : goal.returns-in-NoMemory-clause-turned
returns-in-NoMemory-clause-turned g c =
    let s : Sight = see c.args.self.now.id c.args.self.now.stage (g.C.Caller.calling c.args.self.now.caller) (g.L.Link.flow c.args.self.now.first.value) (g.L.Link.flow c.args.self.now.link) c.args.self.now.talk in
    got_none c.args.stopping ends.NoMemory s (g.L.Link.flow c.read.new.self) c.requires.dry.0.0 c.requires.open c.in-NoMemory.ensures.0 tt (λ f. tt) tt
