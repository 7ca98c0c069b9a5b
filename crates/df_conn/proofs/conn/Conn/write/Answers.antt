use Rattle.std.proofs.Common.{◌≤◌, inl, inr, length, take, drop, refl, sym, subst}
use Rattle.df_model.specs.Values.{Bytes}
use Rattle.df_model.specs.declared.session.Turn.TheVariants as turns
use Rattle.df_model.specs.declared.session.Why.TheVariants as ends
use Rattle.df_outside.specs.Links.{PutOut}
use Rattle.df_conn.specs.Turns.{Sight, see, Turned}
use Rattle.df_conn.proofs.FlowLaws.{proven_write_fault}
use Rattle.df_conn.proofs.LinkLaws.{put_some, put_waits, put_cut, put_none}
use Rattle.df_conn.proofs.AwayLaws.{cut_served, same_served}
use Rattle.df_conn.proofs.conn.Conn.write.Goals as goal

pub returns-then-stopping-clause-turned : goal.returns-then-stopping-clause-turned
returns-then-stopping-clause-turned g c =
    let s : Sight = see c.args.self.now.id c.args.self.now.stage (g.C.Caller.calling c.args.self.now.caller) (g.L.Link.flow c.args.self.now.first.value) (g.L.Link.flow c.args.self.now.link) c.args.self.now.talk in
    put_cut c.args.stopping ends.Stopped c.cut_short-why.result s (g.L.Link.flow c.write.new.self) c.cut_short-why.ensures c.requires.going c.requires.writing tt c.in-NotYet.ensures.0 (λ f. tt) c.if-stopping.true (inr c.if-stopping.true)

pub returns-in-Took-clause-turned : goal.returns-in-Took-clause-turned
returns-in-Took-clause-turned g c =
    let s : Sight = see c.args.self.now.id c.args.self.now.stage (g.C.Caller.calling c.args.self.now.caller) (g.L.Link.flow c.args.self.now.first.value) (g.L.Link.flow c.args.self.now.link) c.args.self.now.talk in
    let now = g.L.Link.flow c.write.new.self in
    let talk = c.pass.new.self in
    let count = c.in-Took.count in
    let waits : Bytes = drop s.sent s.output in
    let within : count ≤ length waits = subst (λ x. count ≤ length x) c.rest.ensures c.in-Took.ensures.1 in
    let put : PutOut s.flow now (take count waits) = subst (λ x. PutOut s.flow now (take count x)) c.rest.ensures c.in-Took.ensures.2 in
    subst (λ x. Turned turns.Moved c.args.stopping s (record s { flow = now; state = x; stream = talk.reader; output = talk.output.items; sent = talk.sent })) (sym c.pass.ensures.state)
    (subst (λ x. Turned turns.Moved c.args.stopping s (record s { flow = now; stream = x; output = talk.output.items; sent = talk.sent })) (sym c.pass.ensures.reader)
    (put_some c.args.stopping s now talk.output.items talk.sent count c.requires.going c.requires.writing c.in-Took.ensures.0 within put c.pass.ensures.passed))

pub returns-else-stopping-clause-turned : goal.returns-else-stopping-clause-turned
returns-else-stopping-clause-turned g c =
    let s : Sight = see c.args.self.now.id c.args.self.now.stage (g.C.Caller.calling c.args.self.now.caller) (g.L.Link.flow c.args.self.now.first.value) (g.L.Link.flow c.args.self.now.link) c.args.self.now.talk in
    put_waits c.args.stopping s (g.L.Link.flow c.write.new.self) c.requires.going c.requires.writing c.in-NotYet.ensures.0 c.in-NotYet.ensures.1 c.in-NotYet.ensures.2

pub returns-in-Failed-clause-turned : goal.returns-in-Failed-clause-turned
returns-in-Failed-clause-turned g c =
    let s : Sight = see c.args.self.now.id c.args.self.now.stage (g.C.Caller.calling c.args.self.now.caller) (g.L.Link.flow c.args.self.now.first.value) (g.L.Link.flow c.args.self.now.link) c.args.self.now.talk in
    put_cut c.args.stopping ends.WriteFault c.cut_short-why-in-Failed.result s (g.L.Link.flow c.write.new.self) c.cut_short-why-in-Failed.ensures c.requires.going c.requires.writing tt c.in-Failed.ensures.0 (λ f. proven_write_fault s.first s.flow (g.L.Link.flow c.write.new.self) s.output s.sent f c.in-Failed.ensures.1) c.in-Failed.ensures.1 (inl c.in-Failed.ensures.1)

pub returns-in-NoMemory-clause-turned : goal.returns-in-NoMemory-clause-turned
returns-in-NoMemory-clause-turned g c =
    let s : Sight = see c.args.self.now.id c.args.self.now.stage (g.C.Caller.calling c.args.self.now.caller) (g.L.Link.flow c.args.self.now.first.value) (g.L.Link.flow c.args.self.now.link) c.args.self.now.talk in
    put_none c.args.stopping s (g.L.Link.flow c.write.new.self) c.requires.going c.requires.writing c.in-NoMemory.ensures

pub returns-then-stopping-clause-served : goal.returns-then-stopping-clause-served
returns-then-stopping-clause-served g c = cut_served c.args.self.now.stage ends.Stopped c.cut_short-why.result c.cut_short-why.ensures refl

pub returns-in-Failed-clause-served : goal.returns-in-Failed-clause-served
returns-in-Failed-clause-served g c = cut_served c.args.self.now.stage ends.WriteFault c.cut_short-why-in-Failed.result c.cut_short-why-in-Failed.ensures refl

pub returns-in-Took-clause-served : goal.returns-in-Took-clause-served
returns-in-Took-clause-served g c = same_served c.args.self.now.stage c.requires.writing

pub returns-else-stopping-clause-served : goal.returns-else-stopping-clause-served
returns-else-stopping-clause-served g c = same_served c.args.self.now.stage c.requires.writing
