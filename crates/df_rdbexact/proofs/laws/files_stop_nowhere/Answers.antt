use Rattle.df_rdbexact.proofs.FileLaws.{stops_at_sum, stops_nowhere}
use Rattle.df_rdbexact.proofs.LargeLaws.{larger_may_stop}
use Rattle.df_rdbexact.proofs.laws.files_stop_nowhere.Goals as goal

pub returns-clause-nowhere : goal.returns-clause-nowhere
returns-clause-nowhere c = stops_nowhere

pub returns-clause-wide : goal.returns-clause-wide
returns-clause-wide c = stops_at_sum

pub returns-clause-larger : goal.returns-clause-larger
returns-clause-larger c = larger_may_stop
