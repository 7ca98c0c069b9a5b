use Rattle.df_world.proofs.Examples.{both_run}
use Rattle.df_world.proofs.laws.two_calls_run.Goals as goal

pub returns : goal.returns
returns c = both_run
