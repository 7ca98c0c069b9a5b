use Rattle.std.proofs.Common.{◌≡◌, ◌+◌, true, false, refl, subst}
use Rattle.std.specs.Bool.{OnTrue}
use Rattle.std.proofs.lemmas.Bool.{false≢true}
use Rattle.df_plan.specs.Commands.{CameTo, IsAdded}
use Rattle.df_plan.specs.declared.plan.Plan.{Plan}
use Rattle.df_plan.proofs.PlanLaws.{comes-over, comes-unsaid}
use Rattle.df_plan.proofs.plan.Plan.is_asking.Goals as goal

pub returns-in-Over-clause-comes : goal.returns-in-Over-clause-comes
returns-in-Over-clause-comes c = λ shards call progress pos came.
    let plan = c.args.self.now in let slip = c.args.slip.now in let r = c.add_reply-self in
    let now : Plan = record { turns = plan.turns; at = plan.at + 1; command = plan.command; said = r.result } in
    comes-over shards call progress c.in-Over.reply plan now slip r.new.slip pos
    (subst (λ n. CameTo n shards call progress plan slip) c.in-Over.is came) r.ensures.call refl refl
    (λ e. subst (λ b. OnTrue b ((plan.said ≡ true) × IsAdded slip.call slip.reply c.in-Over.reply r.new.slip.reply)) e r.ensures.added)

pub returns-in-Unsaid-clause-comes : goal.returns-in-Unsaid-clause-comes
returns-in-Unsaid-clause-comes c = λ shards call progress pos came.
    let plan = c.args.self.now in let slip = c.args.slip.now in
    let now : Plan = record { turns = plan.turns; at = plan.at + 1; command = plan.command; said = false } in
    comes-unsaid shards call progress plan now slip pos (subst (λ n. CameTo n shards call progress plan slip) c.in-Unsaid.is came) refl refl false≢true
