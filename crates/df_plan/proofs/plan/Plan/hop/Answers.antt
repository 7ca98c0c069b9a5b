use Rattle.std.proofs.Common.{◌+◌, ◌*◌, ap, ◌∙◌, arith}
use Rattle.df_plan.proofs.PlanLaws.{hop-fits, hop-so}
use Rattle.df_plan.proofs.plan.Plan.hop.Goals as goal

pub overflow_add-result : goal.overflow_add-result
overflow_add-result c =
    let a = c.requires.asks in
    omega (arith, c.hop.ensures, hop-fits a.0 a.1 a.2 a.3 c.args.self.now a.4 a.5 c.index.result.now c.index.ensures)

pub returns : goal.returns
returns c = record {
  hop = λ shards t call progress slip a.
      ap (λ h. 4 * c.args.self.now.at + h) c.hop.ensures ∙ hop-so shards t call progress c.args.self.now slip a c.index.result.now c.index.ensures;
}
