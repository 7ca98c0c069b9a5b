use Rattle.std.proofs.Common.{◌≡◌, ◌∙◌, ap, subst}
use Rattle.std.specs.Box.{with_value}
use Rattle.df_caller.specs.declared.slip.Slip.{Slip}
use Rattle.df_rounds.specs.Progress.{progress_of}
use Rattle.df_plan.specs.Plans.{GoesTo}
use Rattle.df_many.proofs.CallLaws.{drawn-so}
use Rattle.df_many.proofs.LineLaws.{goes-on}
use Rattle.df_many.proofs.line.Line.set_out.Goals as goal

pub go_by-requires-clause-goes : goal.go_by-requires-clause-goes
go_by-requires-clause-goes c =
    let o = c.args.self.now in let t = c.args.turned in let m = c.requires.may in let asks = c.set_out-asks.result in
    let whole : c.deref_mut.result.now.call ≡ t.call.value = ap (λ (s : Slip). s.call) c.deref_mut.ensures.value ∙ m.whole in
    goes-on asks (record t { slip = with_value t.slip c.set_out-asks.new.slip }) (record o { room = record o.room { plan = c.set_out-asks.new.self } })
    m.drawer (progress_of t.call.value) m.passed (drawn-so o.shards m.drawer o.pass t.call.value t.number m.numbered)
    (subst (λ call. GoesTo asks o.shards call (progress_of call) c.set_out-asks.new.self c.set_out-asks.new.slip) whole c.set_out-asks.ensures.goes)
