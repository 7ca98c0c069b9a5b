use Rattle.df_model.specs.Meaning.{meaning}
use Rattle.df_log.specs.Acts.{Ran}
use Rattle.df_shard.specs.Holds.{call_act, call_command}
use Rattle.df_shard.proofs.entries.ran.Given as goal

abbrev pub ghost-entry_for : goal.ghost-entry_for
ghost-entry_for a = (call_act a.call.now.value a.hop, Ran (meaning (call_command a.call.now.value a.hop) a.keys.now.value.keys).0)
