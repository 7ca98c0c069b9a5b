use Rattle.df_world.proofs.Events.{first_sound}
use Rattle.df_world.proofs.laws.first_world_is_sound.Goals as goal

pub returns : goal.returns
returns g c = λ idle start unstaged. first_sound _ start idle unstaged
