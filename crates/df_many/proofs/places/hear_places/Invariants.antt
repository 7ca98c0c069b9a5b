use Rattle.std.proofs.Common.{◌≡◌, ℕ, true, length}
use Rattle.df_post.specs.Rounds.{place_at}
use Rattle.df_post.specs.declared.awaited.Kind.TheVariants as kinds
use Rattle.df_many.specs.Rooms.{AllOf, is_asked}
use Rattle.df_many.proofs.RoomLaws.{Heard, SomeAsked}
use Rattle.df_many.proofs.places.hear_places.Given as goal

abbrev pub invariant-shards : goal.invariant-shards
invariant-shards l =
    (l.room.round.book ≡ l.fn.room.round.book) × (length l.room.round.places ≡ l.fn.shards) × (length l.room.taken.items ≡ l.fn.shards)
    × (l.room.outcomes ≡ l.fn.room.outcomes) × (l.room.keys ≡ l.fn.room.keys) × (l.room.plan ≡ l.fn.room.plan)
    × AllOf kinds.Place l.room.round × Heard l.shard l.room.round
    × ((s : ℕ) → is_asked (place_at s l.room.round) ≡ true → is_asked (place_at s l.fn.room.round) ≡ true) × SomeAsked l.placed l.fn.room.round
