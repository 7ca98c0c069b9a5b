use Rattle.std.proofs.Common.{take}
use Rattle.df_footprints.specs.Footprints.{in_mode, on_shard}
use Rattle.df_footprints.specs.Naming.{Adds}
use Rattle.df_footprints.proofs.gather.add_keys.Given as goal

abbrev pub invariant-keys : goal.invariant-keys
invariant-keys l = Adds l.fn.modes.entries (on_shard l.place.shards l.place.shard (in_mode l.mode (take l.key-index l.keys))) l.modes.entries
