use Rattle.std.proofs.Common.{◌≡◌, length}
use Rattle.df_many.proofs.room.no_keys.Given as goal

abbrev pub invariant-shards : goal.invariant-shards
invariant-shards l = length l.keys.items ≡ l._shard
