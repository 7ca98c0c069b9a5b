use Rattle.std.proofs.Common.{sym, subst, ℕ, Some, None}
use Rattle.std.specs.Prelude.{Option}
use Rattle.df_model.specs.declared.command.Call.{Call}
use Rattle.df_hops.specs.Said.{call_said}
use Rattle.df_hops.specs.declared.answer.Why.{Why}
use Rattle.df_shard.specs.Holds.{View}
use Rattle.df_shard.specs.Bodies.{why_in}
use Rattle.df_shard.proofs.Turns.{Verdict, verdict-back, verdict-late, verdict-now, verdict-passed, verdict-tail}
use Rattle.df_shard.proofs.shard.Shard.quick.Goals as goal

pub returns-in-Now-clause-late : goal.returns-in-Now-clause-late
returns-in-Now-clause-late c =
    let x : View = c.args.self.now in let y : View = c.receive-asked.new.self in let n : ℕ = c.args.m.number in
    let a = c.receive-asked.result in let k = c.receive-asked.ensures in let call : Call = a.slip.value.call in
    let v : Verdict x n call None =
    verdict-back x y y.pass n a.number call None k.pass k.asked.1 (verdict-now y a.number call c.in-Now.ensures.0 c.in-Now.ensures.1) in
    let said : Verdict x n call (why_in c.run_now.result.body) = subst (λ (w : Option Why). Verdict x n call w) (sym c.run_now.ensures.body) v in
    verdict-late x n call (why_in c.run_now.result.body) (call_said c.args.m.body) said k.call

pub returns-in-Never-clause-tail : goal.returns-in-Never-clause-tail
returns-in-Never-clause-tail c =
    let x : View = c.args.self.now in let y : View = c.receive-asked.new.self in let n : ℕ = c.args.m.number in
    let a = c.receive-asked.result in let k = c.receive-asked.ensures in let call : Call = a.slip.value.call in
    let v : Verdict x n call (Some c.in-Never.why) =
    verdict-back x y y.pass n a.number call (Some c.in-Never.why) k.pass k.asked.1 (verdict-passed y a.number call c.in-Never.why c.in-Never.ensures) in
    let said : Verdict x n call (why_in c.pass_by.result.body) = subst (λ (w : Option Why). Verdict x n call w) (sym c.pass_by.ensures.body) v in
    verdict-tail x n call (why_in c.pass_by.result.body) (call_said c.args.m.body) said k.call
