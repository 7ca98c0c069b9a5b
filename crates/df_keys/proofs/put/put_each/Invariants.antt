use Rattle.std.proofs.Common.{◌≡◌, ◌<◌, ℕ, length}
use Rattle.df_footprints.specs.Footprints.{footprint_of}
use Rattle.df_keys.specs.Asked.{footprint_there}
use Rattle.df_keys.proofs.put.put_each.Given as goal

abbrev pub invariant-shards : goal.invariant-shards
invariant-shards l = record {
  count : length l.keys.items ≡ l.fn.shards;
  put : (s : ℕ) → s < l.shard → footprint_there s l.keys.items ≡ footprint_of l.fn.shards l.fn.call s;
}
