use Rattle.std.proofs.Common.{sym, subst}
use Rattle.df_model.specs.declared.command.Call.TheVariants.{Single}
use Rattle.df_footprints.specs.Footprints.{AsksAlone}
use Rattle.df_footprints.proofs.GatherLaws.{asks_alone}
use Rattle.df_footprints.proofs.asked.one_key_of.Goals as goal

pub returns-in-One-clause-alone : goal.returns-in-One-clause-alone
returns-in-One-clause-alone c =
    subst (λ command. AsksAlone (Single command) c.in-One.key c.mode_of.result) (sym c.in-One.is) (asks_alone c.in-One.key c.in-One.op c.mode_of.result c.mode_of.ensures)
