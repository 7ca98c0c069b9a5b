use Rattle.df_world.proofs.Events.{first_sound, runs_sound}
use Rattle.df_world.proofs.Invariants.{invariant_of}
use Rattle.df_world.specs.World.{first}
use Rattle.df_world.proofs.laws.runs_keep_the_invariant.Goals as goal

pub returns : goal.returns
returns g c = λ laws idle start events w unstaged runs s. invariant_of _ laws start w (runs_sound _ laws start events (first _ idle start) w (first_sound _ start idle unstaged) runs) s (unstaged s)
