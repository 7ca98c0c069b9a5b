use Rattle.std.proofs.Common.{ap, ◌∙◌}
use Rattle.std.specs.Prelude.{nat_lt}
use Rattle.df_intents.proofs.AskLaws.{all_clash}
use Rattle.df_intents.proofs.IndexLaws.{all_entered}
use Rattle.df_intents.proofs.index.Index.enter_all.Goals as goal

pub returns-clause-counts : goal.returns-clause-counts
returns-clause-counts c = λ bs lt h.
    all_entered c.args.self.now c.with-self.result c.with-self-2.result c.args.mode bs c.with-self.ensures.shared c.with-self.ensures.any c.with-self-2.ensures.shared c.with-self-2.ensures.any lt h

pub returns-clause-exact : goal.returns-clause-exact
returns-clause-exact c = λ bs h. ap (nat_lt 0) (c.against-is_opposed.ensures ∙ h.asks c.args.mode) ∙ all_clash c.args.mode bs
