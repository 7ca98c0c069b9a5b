use Rattle.df_core.proofs.CallsLaws.{calls_laws}
use Rattle.df_core.proofs.WorldLaws.{history_legal, in_order}
use Rattle.df_core.proofs.laws.serial.Goals as goal

pub returns-clause-legal : goal.returns-clause-legal
returns-clause-legal c = λ shards some K events w runs finished replies finds. history_legal calls_laws shards some K events w runs finished replies finds

pub returns-clause-ordered : goal.returns-clause-ordered
returns-clause-ordered c = λ shards some K events w runs finished replies finds. in_order calls_laws shards some K events w runs finished replies finds
