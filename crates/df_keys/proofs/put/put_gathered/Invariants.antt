use Rattle.std.proofs.Common.{◌≡◌, ◌<◌, ℕ, drop, length}
use Rattle.df_footprints.specs.Footprints.{some_keys}
use Rattle.df_keys.specs.Asked.{footprint_there}
use Rattle.df_keys.specs.Gathered.{entries_at}
use Rattle.df_keys.proofs.put.put_gathered.Given as goal

abbrev pub invariant-shards : goal.invariant-shards
invariant-shards l = record {
  count : length l.keys.items ≡ length l.fn.maps.items;
  left : l.modes-iterator.rest.items ≡ drop l.shard l.fn.maps.items;
  put : (s : ℕ) → s < l.shard → footprint_there s l.keys.items ≡ some_keys (entries_at s l.fn.maps.items);
}
