use Rattle.std.proofs.Common.{◌≡◌}
use Rattle.df_many.specs.Rooms.{IsRoom, SameWay}
use Rattle.df_many.proofs.HopLaws.{AllAsked}
use Rattle.df_many.proofs.hops.ask_hops.Given as goal

abbrev pub invariant-shards : goal.invariant-shards
invariant-shards l =
    (l.pass.book ≡ l.fn.pass.book) × (l.pass.first ≡ l.fn.pass.first) × (l.pass.budget ≡ l.fn.pass.budget)
    × IsRoom l.fn.book l.fn.shards l.room × SameWay l.fn.room.round l.room.round
    × AllAsked l.fn.shards l.shard l.fn.number l.fn.pass l.fn.room.round l.fn.room.plan l.pass l.room.round l.room.plan
