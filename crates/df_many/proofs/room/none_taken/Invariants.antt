use Rattle.std.proofs.Common.{◌≡◌, length}
use Rattle.df_many.proofs.room.none_taken.Given as goal

abbrev pub invariant-shards : goal.invariant-shards
invariant-shards l = length l.taken.items ≡ l._shard
