use Rattle.df_core.proofs.CallsLaws.{calls_laws}
use Rattle.df_core.proofs.WorldLaws.{invariant_kept}
use Rattle.df_core.proofs.laws.kept.Goals as goal

pub returns : goal.returns
returns c = λ shards some K events w e runs happens s. invariant_kept calls_laws shards some K events w runs e happens s
