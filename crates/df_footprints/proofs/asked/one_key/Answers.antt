use Rattle.std.proofs.Common.{sym, subst}
use Rattle.std.specs.Prelude.{IfSome}
use Rattle.df_footprints.specs.Footprints.{AsksAlone}
use Rattle.df_footprints.proofs.asked.one_key.Goals as goal

pub returns-in-Single-clause-alone : goal.returns-in-Single-clause-alone
returns-in-Single-clause-alone c =
    subst (λ call. IfSome c.one_key_of.result (λ asked. AsksAlone call asked.0.now asked.1)) (sym c.in-Single.is) c.one_key_of.ensures.alone
