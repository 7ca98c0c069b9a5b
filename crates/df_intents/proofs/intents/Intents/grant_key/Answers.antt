use Rattle.std.proofs.Common.{cond, sym, ap, ◌∙◌}
use Rattle.df_intents.specs.declared.grant.Grant.TheVariants.{Free, Waits}
use Rattle.df_intents.proofs.KeptLaws.{granted_key}
use Rattle.df_intents.proofs.intents.Intents.grant_key.Goals as goal

pub returns-then-opposes_key : goal.returns-then-opposes_key
returns-then-opposes_key c =
    sym (ap (λ b. cond b Waits Free) c.if-opposes_key.true) ∙ granted_key c.args.key.now c.args.mode c.args.self.now.holders c.opposes_key.result c.opposes_key.ensures

pub returns-else-opposes_key : goal.returns-else-opposes_key
returns-else-opposes_key c =
    sym (ap (λ b. cond b Waits Free) c.if-opposes_key.false) ∙ granted_key c.args.key.now c.args.mode c.args.self.now.holders c.opposes_key.result c.opposes_key.ensures
