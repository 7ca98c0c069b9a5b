use Rattle.std.proofs.Common.{take}
use Rattle.df_model.specs.Meaning.{firsts}
use Rattle.df_model.specs.declared.keys.Mode.TheVariants.{Exclusive}
use Rattle.df_footprints.specs.Footprints.{in_mode}
use Rattle.df_keys.specs.Gathered.{Gathers}
use Rattle.df_keys.proofs.gather.add_firsts.Given as goal

abbrev pub invariant-pairs : goal.invariant-pairs
invariant-pairs l = Gathers l.shards (in_mode Exclusive (firsts (take l.key-index l.pairs))) l.fn.maps.items l.maps.items
