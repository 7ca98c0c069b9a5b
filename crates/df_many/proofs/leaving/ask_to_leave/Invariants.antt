use Rattle.std.proofs.Common.{◌≡◌}
use Rattle.df_post.specs.declared.awaited.Kind.TheVariants as kinds
use Rattle.df_many.specs.Rooms.{IsRoom}
use Rattle.df_many.proofs.RoomLaws.{Asks}
use Rattle.df_many.proofs.leaving.ask_to_leave.Given as goal

abbrev pub invariant-shards : goal.invariant-shards
invariant-shards l = (l.pass ≡ l.fn.pass) × IsRoom l.fn.book l.fn.shards l.room × Asks kinds.Free l.shard l.room.round
