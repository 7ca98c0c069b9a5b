-- A run, so that events are known to happen: two calls on one counter, of which the second waits for the first.
use Rattle.std.specs.Prelude.{◌≡◌, true, List, [], ◌∷◌}
use Rattle.df_order.specs.Counters.{Added, counters}
use Rattle.df_world.specs.World.{World, logs, first}
use Rattle.df_world.specs.Events.{Event, Draw, Schedule, Hop, Conclude, Runs}

-- number 1 adds 5 to the counter 0, and number 2 adds 2 to it
abbrev pub five : Added
five = record { number = 1; add = record { key = 0; amount = 5 }; count = 5 }

abbrev pub two : Added
two = record { number = 2; add = record { key = 0; amount = 2 }; count = 7 }

-- number 2 finds number 1 before it, so it waits without a grant until it is the head
abbrev pub events : List (Event counters)
events =
    Draw 7 five.add ∷ Draw 8 two.add ∷ Schedule 0 1 true ∷ Schedule 0 2 true ∷ Hop 0 1 five ∷ Conclude 0 1 ∷
    Hop 0 2 two ∷ Conclude 0 2 ∷ []

abbrev pub at_first : World counters
at_first = first counters (record { key = 0; amount = 0 }) (λ s k. 0)

-- the events may happen in this order, and leave both entries and nobody who waits
pub record BothRun : Type 0 where
  pub world : World counters
  pub runs : Runs counters at_first events world
  pub log : logs counters world 0 ≡ five ∷ two ∷ []
  pub queue : (world.shard 0).queue ≡ []
