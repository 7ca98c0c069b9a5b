use Rattle.df_hops.specs.Parts.{act_of}
use Rattle.df_hops.specs.Came.{given_as}
use Rattle.df_shard.proofs.entries.did.Given as goal

abbrev pub ghost-part_entry : goal.ghost-part_entry
ghost-part_entry a = (act_of a.part.now.value, given_as a.outcome.now a.shards a.index a.keys.now.value.keys (act_of a.part.now.value))
