use Rattle.std.proofs.Common.{take}
use Rattle.df_model.specs.Meaning.{firsts}
use Rattle.df_model.specs.declared.keys.Mode.TheVariants.{Exclusive}
use Rattle.df_footprints.specs.Footprints.{in_mode, on_shard}
use Rattle.df_footprints.specs.Naming.{Adds}
use Rattle.df_footprints.proofs.gather.add_firsts.Given as goal

abbrev pub invariant-pairs : goal.invariant-pairs
invariant-pairs l = Adds l.fn.modes.entries (on_shard l.place.shards l.place.shard (in_mode Exclusive (firsts (take l.key-index l.pairs)))) l.modes.entries
