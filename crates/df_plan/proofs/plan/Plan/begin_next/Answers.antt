use Rattle.std.proofs.Common.{false, refl, subst, arith}
use Rattle.df_plan.specs.Commands.{ComesBy}
use Rattle.df_plan.proofs.PlanLaws.{moves-on, over-so}
use Rattle.df_plan.proofs.plan.Plan.begin_next.Goals as goal

pub commands-preserved : goal.commands-preserved
commands-preserved c = λ call progress r.
    let m = c.commands.invariant call progress r in
    let came = c.begin-next.ensures.came call m.0 m.2 in
    let b : ComesBy false c.args.shards call m.0 c.is_asking.new.self c.is_asking.new.slip =
    subst (λ asks. ComesBy asks c.args.shards call m.0 c.is_asking.new.self c.is_asking.new.slip) c.if-is_asking.false
    (c.is_asking.ensures.comes c.args.shards call m.0 c.requires.some came) in
    (b.0, moves-on c.args.shards call progress m.0 b.0 m.1 b.1, b.2)

pub returns : goal.returns
returns c = record {
  goes = λ call progress r.
      let m = c.commands.invariant call progress r in
      (m.0, m.1, over-so c.args.shards call m.0 c.commands.self _ c.commands.slip m.2 (omega (arith, c.commands.self.turns.ok.0)) refl);
}
