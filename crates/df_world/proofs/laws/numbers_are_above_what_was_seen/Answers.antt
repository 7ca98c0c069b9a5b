use Rattle.df_world.specs.World.{first}
use Rattle.df_world.proofs.Events.{first_sound}
use Rattle.df_world.proofs.Seen.{first_seen, runs_seen}
use Rattle.df_world.proofs.laws.numbers_are_above_what_was_seen.Goals as goal

pub returns : goal.returns
returns g c = λ laws idle start events w unstaged runs. runs_seen _ laws start events (first _ idle start) w (first_sound _ start idle unstaged) (first_seen _ idle start) runs
