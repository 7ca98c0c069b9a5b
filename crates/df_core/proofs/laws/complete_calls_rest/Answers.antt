use Rattle.df_core.proofs.RestLaws.{gives_due}
use Rattle.df_core.proofs.laws.complete_calls_rest.Goals as goal

pub returns : goal.returns
returns c = λ shards call steps reply s hop act pos gives is_due. (gives_due shards call steps reply s hop act pos gives is_due).1
