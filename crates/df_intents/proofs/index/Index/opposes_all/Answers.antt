use Rattle.std.proofs.Common.{ap, ◌∙◌}
use Rattle.std.specs.Prelude.{nat_lt}
use Rattle.df_intents.proofs.AskLaws.{all_clash}
use Rattle.df_intents.proofs.index.Index.opposes_all.Goals as goal

pub returns : goal.returns
returns c = λ bs h. ap (nat_lt 0) (c.against.ensures ∙ h.asks c.args.mode) ∙ all_clash c.args.mode bs
