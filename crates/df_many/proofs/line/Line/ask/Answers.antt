use Rattle.std.proofs.Common.{◌∙◌, sym, subst}
use Rattle.df_exchange.proofs.AskLaws.{exchanges_begin}
use Rattle.df_many.specs.Lines.{Holds}
use Rattle.df_many.specs.declared.line.Line.{Line}
use Rattle.df_many.proofs.line.Line.ask.Goals as goal

pub ask_hops-requires-clause-goes : goal.ask_hops-requires-clause-goes
ask_hops-requires-clause-goes c =
    let o = c.args.self.now in let h = c.requires.holds in let m = c.requires.may in let t = c.args.turned in (
      m.drawer,
      t.call.value,
      m.progress,
      t.slip.value,
      exchanges_begin o.shards t.number m.drawer t.call.value m.progress o.pass o.room.round m.between h.room.places h.stands,
      m.asks,
    )

pub returns-clause-holds : goal.returns-clause-holds
returns-clause-holds c =
    let o = c.args.self.now in let h = c.requires.holds in let m = c.requires.may in let t = c.args.turned in let e = c.ask_hops.ensures in
    let begun = exchanges_begin o.shards t.number m.drawer t.call.value m.progress o.pass o.room.round m.between h.room.places h.stands in
    let asked = e.asked m.drawer t.call.value m.progress t.slip.value begun m.asks in
    subst (λ (x : Line). Holds x.state x) (sym c.pend.ensures.same) (record {
      some = h.some;
      words = h.words;
      pass = e.same.0 ∙ h.pass;
      caller = e.same.1 ∙ h.caller;
      bounded = asked.0.underway.bounded;
      room = e.room;
      stands = record {
        progress = m.progress;
        asks = asked.1;
        drawer = m.drawer;
        passed = m.passed;
        exchanging = asked.0;
      };
    })
