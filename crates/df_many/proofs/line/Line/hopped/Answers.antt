use Rattle.std.proofs.Common.{◌∙◌, ap, length}
use Rattle.std.specs.Box.{with_value}
use Rattle.df_book.specs.Passes.{Caller}
use Rattle.df_post.specs.Rounds.{RoundView}
use Rattle.df_rounds.specs.Progress.{after_round}
use Rattle.df_many.specs.declared.state.State.TheVariants as states
use Rattle.df_many.proofs.LineLaws.{answered-so, goes-on, holds-heard, hop-rounds}
use Rattle.df_many.proofs.line.Line.hopped.Goals as goal

pub go_on-asks-requires : goal.go_on-asks-requires
go_on-asks-requires c =
    let o = c.args.self.now in let t = c.args.turned in let h = c.requires.holds in let s = h.stands in let u : Caller = c.hear_hops.new.pass in
    let round : RoundView = c.hear_hops.new.room.round in let outcomes = c.hear_hops.new.room.outcomes.items in let e = c.hear_hops.ensures in
    let r = hop-rounds t o s u round outcomes h.some (e.heard t.number s.drawer t.call.value s.progress s.exchanging) in
    let a = answered-so t o s u round outcomes c.hear_hops.new.room.plan c.deref_mut.result.now h.some e.room.2 e.room.5 c.deref_mut.ensures.value r in record {
      answered = (t.call.value, s.progress, r.told, a);
    }

pub go_by-requires-clause-holds : goal.go_by-requires-clause-holds
go_by-requires-clause-holds c =
    let o = c.args.self.now in let t = c.args.turned in let h = c.requires.holds in let s = h.stands in let u : Caller = c.hear_hops.new.pass in
    let round : RoundView = c.hear_hops.new.room.round in let outcomes = c.hear_hops.new.room.outcomes.items in let e = c.hear_hops.ensures in
    let r = hop-rounds t o s u round outcomes h.some (e.heard t.number s.drawer t.call.value s.progress s.exchanging) in
    holds-heard (states.Hopping t) o u _ h e.same.0 e.same.1 r.between.bounded (record {
      book = e.room.0;
      places = e.room.1;
      clear = c.go_on-asks.ensures.clear;
      taken = ap (λ v. length v.items) e.room.3 ∙ h.room.taken;
      keys = ap (λ v. length v.items) e.room.4 ∙ h.room.keys;
    }) r.idle

pub go_by-requires-clause-goes : goal.go_by-requires-clause-goes
go_by-requires-clause-goes c =
    let o = c.args.self.now in let t = c.args.turned in let h = c.requires.holds in let s = h.stands in let u : Caller = c.hear_hops.new.pass in
    let round : RoundView = c.hear_hops.new.room.round in let outcomes = c.hear_hops.new.room.outcomes.items in let e = c.hear_hops.ensures in
    let r = hop-rounds t o s u round outcomes h.some (e.heard t.number s.drawer t.call.value s.progress s.exchanging) in
    let a = answered-so t o s u round outcomes c.hear_hops.new.room.plan c.deref_mut.result.now h.some e.room.2 e.room.5 c.deref_mut.ensures.value r in
    goes-on c.go_on-asks.result (record t { slip = with_value t.slip c.go_on-asks.new.slip })
    (record o { pass = u; room = record c.hear_hops.new.room { outcomes = c.go_on-asks.new.outcomes; plan = c.go_on-asks.new.self } })
    s.drawer (after_round r.told s.progress) s.passed r.between (c.go_on-asks.ensures.goes t.call.value s.progress r.told a)
