use Rattle.std.proofs.Common.{◌≡◌, ◌∙◌, ◌<◌, ℕ, [], ◌∷◌, ap, sym, subst, arith, length, length-append}
use Rattle.std.specs.Prelude.{Some}
use Rattle.df_model.specs.declared.command.Call.{Call}
use Rattle.df_caller.specs.declared.slip.Slip.{Slip}
use Rattle.df_footprints.specs.Footprints.{commands_of}
use Rattle.df_log.specs.Acts.{Run}
use Rattle.df_core.specs.Courses.{are_quick}
use Rattle.df_core.specs.Due.{due}
use Rattle.df_book.specs.Draws.{call_at, draws_of, last_number}
use Rattle.df_book.specs.Passes.{Caller, after_draw, draw_by}
use Rattle.df_rounds.specs.Progress.{progress_of}
use Rattle.df_rounds.proofs.BetweenLaws.{calls_are_drawn, calls_ask}
use Rattle.df_hops.specs.Parts.{command_at, shards_in}
use Rattle.df_coord.proofs.AloneLaws.{due-run, quick-alone}
use Rattle.df_coord.proofs.HeardLaws.{drawn-call}
use Rattle.df_coord.proofs.asking.ask.Goals as goal

pub quick-requires-clause-drawn : goal.quick-requires-clause-drawn
quick-requires-clause-drawn c =
    let v : Caller = c.args.pass.now in let call : Call = c.args.slip.value.call in let n : ℕ = c.draw-number.result in let e = c.draw-number.ensures in
    let drawn : c.draw-number.new.pass ≡ after_draw v call n = e.drawn ∙ ap (λ (s : Slip). after_draw v s.call n) c.deref.ensures in
    let u = calls_ask c.args.shards v call n (progress_of call) (after_draw v call n)
    (calls_are_drawn c.args.shards v call n e.above_own e.above_seen e.fresh e.range.0 c.requires.bounded) in (
      omega (arith, ap (λ (p : Caller). length p.own) drawn, length-append v.own (draw_by v call n ∷ [])),
      subst (λ (p : Caller). 0 < draws_of n p.own) (sym drawn) u.drawn,
    )

pub quick-requires-clause-last : goal.quick-requires-clause-last
quick-requires-clause-last c =
    let v : Caller = c.args.pass.now in let call : Call = c.args.slip.value.call in let n : ℕ = c.draw-number.result in let e = c.draw-number.ensures in
    let drawn : c.draw-number.new.pass ≡ after_draw v call n = e.drawn ∙ ap (λ (s : Slip). after_draw v s.call n) c.deref.ensures in
    let u = calls_ask c.args.shards v call n (progress_of call) (after_draw v call n)
    (calls_are_drawn c.args.shards v call n e.above_own e.above_seen e.fresh e.range.0 c.requires.bounded) in
    ap (λ (p : Caller). last_number p.own) drawn ∙ u.last

pub quick-requires-clause-call : goal.quick-requires-clause-call
quick-requires-clause-call c =
    let e = c.draw-number.ensures in
    let drawn : c.draw-number.new.pass ≡ after_draw c.args.pass.now c.args.slip.value.call c.draw-number.result =
    e.drawn ∙ ap (λ (s : Slip). after_draw c.args.pass.now s.call c.draw-number.result) c.deref.ensures in
    sym (ap (λ (p : Caller). call_at p.own c.draw-number.result) drawn
    ∙ drawn-call c.args.shards c.args.shard c.args.pass.now c.args.slip.value.call c.draw-number.result c.requires.some c.requires.runs e.above_own e.above_seen e.fresh e.range.0 c.requires.bounded)

pub quick-requires-clause-quick : goal.quick-requires-clause-quick
quick-requires-clause-quick c =
    let k = c.requires.runs in let shards : shards_in c.args.book.now ≡ c.args.shards = omega (arith, c.requires.book.1) in
    ap (λ m. are_quick m (commands_of c.args.slip.value.call)) shards ∙ ap (λ call. are_quick c.args.shards (commands_of call)) k.is
    ∙ quick-alone c.args.shards c.args.shard k.command k.alone

pub quick-requires-clause-due : goal.quick-requires-clause-due
quick-requires-clause-due c =
    let k = c.requires.runs in let shards : shards_in c.args.book.now ≡ c.args.shards = omega (arith, c.requires.book.1) in
    ap (λ call. Some (Run (command_at (commands_of call) 0))) k.is
    ∙ sym (due-run c.args.shards c.args.shard k.command k.alone c.requires.some k.there)
    ∙ ap (λ call. due c.args.shards call (λ i. []) c.args.shard 0) (sym k.is)
    ∙ ap (λ m. due m c.args.slip.value.call (λ i. []) c.args.shard 0) (sym shards)
