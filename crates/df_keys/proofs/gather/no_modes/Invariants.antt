use Rattle.df_keys.specs.Gathered.{AreEmpty}
use Rattle.df_keys.proofs.gather.no_modes.Given as goal

abbrev pub invariant-shards : goal.invariant-shards
invariant-shards l = AreEmpty l._shard l.maps.items
