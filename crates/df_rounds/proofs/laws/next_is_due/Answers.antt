use Rattle.df_rounds.proofs.ProgressLaws.{next_is_due}
use Rattle.df_rounds.proofs.laws.next_is_due.Goals as goal

pub returns : goal.returns
returns c = next_is_due
