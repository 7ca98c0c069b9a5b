use Rattle.df_rounds.proofs.ProgressLaws.{calls_start, rounds_go_on, seen_goes_on, commands_go_on, over_goes_on, stop_goes_on}
use Rattle.df_rounds.proofs.laws.progress_goes_on.Goals as goal

pub returns-clause-start : goal.returns-clause-start
returns-clause-start c = calls_start

pub returns-clause-rounds : goal.returns-clause-rounds
returns-clause-rounds c = rounds_go_on

pub returns-clause-seen : goal.returns-clause-seen
returns-clause-seen c = seen_goes_on

pub returns-clause-commands : goal.returns-clause-commands
returns-clause-commands c = commands_go_on

pub returns-clause-over : goal.returns-clause-over
returns-clause-over c = over_goes_on

pub returns-clause-stopped : goal.returns-clause-stopped
returns-clause-stopped c = stop_goes_on
