use Rattle.df_many.proofs.RoomLaws.{refused-not, wanting-not}
use Rattle.df_many.proofs.LineLaws.{due-again, last-placed, may-set-out}
use Rattle.df_many.proofs.line.Line.placed.Goals as goal

pub set_out-requires-clause-may : goal.set_out-requires-clause-may
set_out-requires-clause-may c = may-set-out c.args.turned c.args.self.now c.hear_places.new.room c.requires.holds.stands c.hear_places.ensures.same.5

pub withdraw-requires-clause-due : goal.withdraw-requires-clause-due
withdraw-requires-clause-due c =
    due-again c.args.turned c.args.self.now c.hear_places.new.room c.requires.holds.stands (c.hear_places.ensures.told (refused-not _ c.in-Refused.is))

pub withdraw-requires-clause-last : goal.withdraw-requires-clause-last
withdraw-requires-clause-last c = last-placed c.args.turned c.args.self.now c.hear_places.new.room c.requires.holds.stands

pub withdraw-requires-in-NoMemory-clause-due : goal.withdraw-requires-in-NoMemory-clause-due
withdraw-requires-in-NoMemory-clause-due c =
    due-again c.args.turned c.args.self.now c.hear_places.new.room c.requires.holds.stands (c.hear_places.ensures.told (wanting-not _ c.in-NoMemory.is))

pub withdraw-requires-in-NoMemory-clause-last : goal.withdraw-requires-in-NoMemory-clause-last
withdraw-requires-in-NoMemory-clause-last c = last-placed c.args.turned c.args.self.now c.hear_places.new.room c.requires.holds.stands
