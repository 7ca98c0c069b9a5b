use Rattle.df_end.proofs.AskedLaws.{answers_are_due}
use Rattle.df_end.proofs.laws.answers_are_due.Goals as goal

pub returns : goal.returns
returns c = answers_are_due
