use Rattle.std.proofs.Common.{[], take}
use Rattle.df_footprints.specs.Footprints.{keys_of_all, on_shard}
use Rattle.df_footprints.specs.Naming.{Adds}
use Rattle.df_footprints.proofs.asked.of_commands.Given as goal

abbrev pub invariant-commands : goal.invariant-commands
invariant-commands l = Adds [] (on_shard l.place.shards l.place.shard (keys_of_all (take l.command-index l.commands))) l.modes.entries
