use Rattle.df_many.proofs.RoomLaws.{none-so}
use Rattle.df_many.proofs.places.hear_place.Goals as goal

pub returns-in_default-clause-round : goal.returns-in_default-clause-round
returns-in_default-clause-round c = none-so c.args.room.now.round c.take.new.self c.args.shard c.requires.done c.in_default.ensures.none
