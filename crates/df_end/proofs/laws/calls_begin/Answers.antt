use Rattle.df_end.proofs.RoundLaws.{calls_begin, draws_keep_the_bound, tickets_keep_the_bound}
use Rattle.df_end.proofs.laws.calls_begin.Goals as goal

pub returns-clause-begun : goal.returns-clause-begun
returns-clause-begun c = calls_begin

pub returns-clause-draws : goal.returns-clause-draws
returns-clause-draws c = draws_keep_the_bound

pub returns-clause-tickets : goal.returns-clause-tickets
returns-clause-tickets c = tickets_keep_the_bound
