use Rattle.std.proofs.Common.{take}
use Rattle.df_footprints.specs.Footprints.{in_mode}
use Rattle.df_keys.specs.Gathered.{Gathers}
use Rattle.df_keys.proofs.gather.add_keys.Given as goal

abbrev pub invariant-keys : goal.invariant-keys
invariant-keys l = Gathers l.shards (in_mode l.mode (take l.key-index l.keys)) l.fn.maps.items l.maps.items
