use Rattle.df_book.specs.Draws.{call_at}
use Rattle.df_many.proofs.RoomLaws.{PlacesAsked}
use Rattle.df_many.proofs.places.ask_places.Given as goal

abbrev pub invariant-shards : goal.invariant-shards
invariant-shards l =
    PlacesAsked l.fn.book l.fn.shards l.shard (call_at l.fn.pass.own l.fn.number) l.fn.pass l.fn.room l.pass l.room
