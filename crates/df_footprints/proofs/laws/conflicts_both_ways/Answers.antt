use Rattle.df_footprints.proofs.ConflictLaws.{conflicts_comm}
use Rattle.df_footprints.proofs.laws.conflicts_both_ways.Goals as goal

pub returns : goal.returns
returns c = conflicts_comm
