use Rattle.df_exchange.proofs.AskLaws.{exchanges_begin, exchanges_go, next_parts_are_due, next_places_are_idle}
use Rattle.df_exchange.proofs.laws.exchanges_go_on.Goals as goal

pub returns-clause-begun : goal.returns-clause-begun
returns-clause-begun c = exchanges_begin

pub returns-clause-due : goal.returns-clause-due
returns-clause-due c = next_parts_are_due

pub returns-clause-room : goal.returns-clause-room
returns-clause-room c = next_places_are_idle

pub returns-clause-gone : goal.returns-clause-gone
returns-clause-gone c = exchanges_go
