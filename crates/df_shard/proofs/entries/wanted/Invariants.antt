use Rattle.df_log.specs.Acts.{NoMemory}
use Rattle.df_shard.specs.Holds.{call_act}
use Rattle.df_shard.proofs.entries.wanted.Given as goal

abbrev pub ghost-entry_for : goal.ghost-entry_for
ghost-entry_for a = (call_act a.call.now.value a.hop, NoMemory)
