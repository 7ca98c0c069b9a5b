use Rattle.df_limits.proofs.CommandLaws.{commands_keep, calls_keep, no_keys_keep}
use Rattle.df_limits.proofs.laws.commands_keep_the_limits.Goals as goal

pub returns-clause-commands : goal.returns-clause-commands
returns-clause-commands c = commands_keep

pub returns-clause-calls : goal.returns-clause-calls
returns-clause-calls c = calls_keep

pub returns-clause-no_keys : goal.returns-clause-no_keys
returns-clause-no_keys c = no_keys_keep
