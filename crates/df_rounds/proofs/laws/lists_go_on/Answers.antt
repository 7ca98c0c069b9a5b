use Rattle.df_rounds.proofs.AskedLaws.{lists_go_on}
use Rattle.df_rounds.proofs.laws.lists_go_on.Goals as goal

pub returns : goal.returns
returns c = lists_go_on
