use Rattle.std.proofs.Common.{◌≡◌, length}
use Rattle.df_many.proofs.HopLaws.{AllHeard}
use Rattle.df_many.proofs.hops.hear_hops.Given as goal

abbrev pub invariant-shards : goal.invariant-shards
invariant-shards l =
    (l.pass.book ≡ l.fn.pass.book) × (l.pass.first ≡ l.fn.pass.first) × (l.pass.budget ≡ l.fn.pass.budget)
    × (l.room.round.book ≡ l.fn.book) × (length l.room.round.places ≡ l.fn.shards) × (length l.room.outcomes.items ≡ l.fn.shards)
    × (l.room.taken ≡ l.fn.room.taken) × (l.room.keys ≡ l.fn.room.keys) × (l.room.plan ≡ l.fn.room.plan)
    × AllHeard l.fn.shards l.shard l.fn.pass l.fn.room.round l.pass l.room.round l.room.outcomes.items
