use Rattle.df_footprints.proofs.ConflictLaws.{left_alone}
use Rattle.df_footprints.proofs.laws.what_does_not_conflict_is_left_alone.Goals as goal

pub returns : goal.returns
returns c = left_alone
