use Rattle.std.proofs.Common.{◌≡◌, ◌∙◌, ℕ, ap, sym, subst}
use Rattle.df_model.specs.Calls.{IsCall}
use Rattle.df_model.specs.declared.command.Call.{Call}
use Rattle.df_book.specs.Draws.{Bounded}
use Rattle.df_book.specs.Passes.{Caller, after_draw}
use Rattle.df_caller.specs.declared.slip.Slip.{Slip}
use Rattle.df_core.specs.History.{NamesAShard}
use Rattle.df_coord.specs.Rows.{CallPassed}
use Rattle.df_keys.specs.Asked.{FootprintsStand}
use Rattle.df_plan.specs.Plans.{Planned}
use Rattle.df_rounds.specs.Progress.{progress_of}
use Rattle.df_many.specs.Lines.{Holds, Numbered}
use Rattle.df_many.specs.declared.line.Line.{Line}
use Rattle.df_many.proofs.CallLaws.{call-so, drawn-so, last-so}
use Rattle.df_many.proofs.line.Line.draw.Goals as goal

pub ask_places-requires-clause-drawn : goal.ask_places-requires-clause-drawn
ask_places-requires-clause-drawn c =
    let o = c.args.self.now in let h = c.requires.holds in let v : Caller = o.pass in let n : ℕ = c.draw_call-number.result in
    let e = c.draw_call-number.ensures in let u : Caller = c.draw_call-number.new.pass in let call : Call = c.args.slip.value.call in
    let drawn : u ≡ after_draw v call n = e.drawn ∙ ap (λ (s : Slip). after_draw v s.call n) c.deref-2.ensures in
    let a : Numbered v u call n = record { positive = e.range.0; above = e.above.0; below = e.above.1; fresh = e.fresh; bounded = h.bounded; now = drawn } in
    let q = last-so o.shards v u call n (progress_of call) (drawn-so o.shards v u call n a) in (q.0, q.1)

pub ask_places-requires-clause-last : goal.ask_places-requires-clause-last
ask_places-requires-clause-last c =
    let o = c.args.self.now in let h = c.requires.holds in let v : Caller = o.pass in let n : ℕ = c.draw_call-number.result in
    let e = c.draw_call-number.ensures in let u : Caller = c.draw_call-number.new.pass in let call : Call = c.args.slip.value.call in
    let drawn : u ≡ after_draw v call n = e.drawn ∙ ap (λ (s : Slip). after_draw v s.call n) c.deref-2.ensures in
    let a : Numbered v u call n = record { positive = e.range.0; above = e.above.0; below = e.above.1; fresh = e.fresh; bounded = h.bounded; now = drawn } in
    (last-so o.shards v u call n (progress_of call) (drawn-so o.shards v u call n a)).2

pub ask_places-requires-clause-keys : goal.ask_places-requires-clause-keys
ask_places-requires-clause-keys c =
    let o = c.args.self.now in let h = c.requires.holds in let v : Caller = o.pass in let n : ℕ = c.draw_call-number.result in
    let e = c.draw_call-number.ensures in let u : Caller = c.draw_call-number.new.pass in let call : Call = c.args.slip.value.call in
    let drawn : u ≡ after_draw v call n = e.drawn ∙ ap (λ (s : Slip). after_draw v s.call n) c.deref-2.ensures in
    let a : Numbered v u call n = record { positive = e.range.0; above = e.above.0; below = e.above.1; fresh = e.fresh; bounded = h.bounded; now = drawn } in
    subst (λ x. FootprintsStand o.shards x o.room.keys.items) (sym (call-so v u call n a)) c.requires.keys

pub returns-clause-holds : goal.returns-clause-holds
returns-clause-holds c =
    let o = c.args.self.now in let h = c.requires.holds in let d = h.stands.1 in let v : Caller = o.pass in let n : ℕ = c.draw_call-number.result in
    let e = c.draw_call-number.ensures in let u : Caller = c.draw_call-number.new.pass in let call : Call = c.args.slip.value.call in
    let drawn : u ≡ after_draw v call n = e.drawn ∙ ap (λ (s : Slip). after_draw v s.call n) c.deref-2.ensures in
    let a : Numbered v u call n = record { positive = e.range.0; above = e.above.0; below = e.above.1; fresh = e.fresh; bounded = h.bounded; now = drawn } in
    let b = drawn-so o.shards v u call n a in
    let kept : c.of-call.result.value ≡ call = c.of-call.ensures ∙ ap (λ (s : Slip). s.call) c.deref.ensures in
    let now : c.ask_places.new.pass ≡ after_draw v call n = c.ask_places.ensures.pass ∙ drawn in
    subst (λ (x : Line). Holds x.state x) (sym c.pend.ensures.same) (record {
      some = h.some;
      words = h.words;
      pass = ap (λ (p : Caller). p.book) now ∙ h.pass;
      caller = ap (λ (p : Caller). p.first) now ∙ h.caller;
      bounded = subst (λ (p : Caller). Bounded p.own p.made p.seen) (sym c.ask_places.ensures.pass) b.bounded;
      room = c.ask_places.ensures.room;
      stands = record {
        whole = sym kept;
        is_call = subst IsCall (sym kept) d.is_call;
        drawer = v;
        passed = subst (λ x. CallPassed o.shards o.before.value v x) (sym kept) d.passed;
        numbered = record {
          positive = e.range.0;
          above = e.above.0;
          below = e.above.1;
          fresh = e.fresh;
          bounded = h.bounded;
          now = now ∙ ap (λ x. after_draw v x n) (sym kept);
        };
        planned = subst (λ plan. Planned o.shards c.of-call.result.value plan c.args.slip.value.reply) (sym c.ask_places.ensures.plan)
            (subst (λ x. Planned o.shards x o.room.plan c.args.slip.value.reply) (sym kept) c.requires.planned);
        messages = c.ask_places.ensures.asked;
        named = λ s asked. subst (NamesAShard o.shards) (call-so v u call n a ∙ sym kept) (c.ask_places.ensures.named s asked);
      };
    })
