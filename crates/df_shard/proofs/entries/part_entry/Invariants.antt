use Rattle.df_shard.proofs.entries.part_entry.Given as goal

abbrev pub ghost-new : goal.ghost-new
ghost-new g a = g.did
