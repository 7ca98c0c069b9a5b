use Rattle.df_rounds.proofs.ProgressLaws.{calls_give, ends_leave}
use Rattle.df_rounds.proofs.laws.calls_give.Goals as goal

pub returns-clause-reply : goal.returns-clause-reply
returns-clause-reply c = calls_give

pub returns-clause-left : goal.returns-clause-left
returns-clause-left c = ends_leave
