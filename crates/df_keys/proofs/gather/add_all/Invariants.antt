use Rattle.std.proofs.Common.{take}
use Rattle.df_footprints.specs.Footprints.{keys_of_all}
use Rattle.df_keys.specs.Gathered.{Gathers}
use Rattle.df_keys.proofs.gather.add_all.Given as goal

abbrev pub invariant-commands : goal.invariant-commands
invariant-commands l = Gathers l.shards (keys_of_all (take l.command-index l.commands)) l.fn.maps.items l.maps.items
