use Rattle.std.proofs.Common.{◌≡◌, length}
use Rattle.df_many.proofs.RoomLaws.{Heard}
use Rattle.df_many.proofs.leaving.hear_left.Given as goal

abbrev pub invariant-shards : goal.invariant-shards
invariant-shards l =
    (l.room.round.book ≡ l.fn.room.round.book) × (length l.room.round.places ≡ l.fn.shards) × (l.room.taken ≡ l.fn.room.taken)
    × (l.room.outcomes ≡ l.fn.room.outcomes) × (l.room.keys ≡ l.fn.room.keys) × (l.room.plan ≡ l.fn.room.plan) × Heard l.shard l.room.round
