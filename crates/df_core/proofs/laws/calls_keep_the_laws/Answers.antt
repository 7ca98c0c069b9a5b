use Rattle.df_core.proofs.CallsLaws.{calls_laws}
use Rattle.df_core.proofs.laws.calls_keep_the_laws.Goals as goal

pub returns : goal.returns
returns c = calls_laws
