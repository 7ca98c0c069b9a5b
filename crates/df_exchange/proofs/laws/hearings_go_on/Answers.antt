use Rattle.df_exchange.proofs.AskLaws.{hearings_begin}
use Rattle.df_exchange.proofs.HearLaws.{answers_are_of_hops, exchanges_go_round}
use Rattle.df_exchange.proofs.laws.hearings_go_on.Goals as goal

pub returns-clause-begun : goal.returns-clause-begun
returns-clause-begun c = hearings_begin

pub returns-clause-hops : goal.returns-clause-hops
returns-clause-hops c = answers_are_of_hops

pub returns-clause-round : goal.returns-clause-round
returns-clause-round c = exchanges_go_round
