use Rattle.df_world.proofs.Events.{event_sound}
use Rattle.df_world.proofs.Invariants.{invariant_of}
use Rattle.df_world.specs.Events.{after}
use Rattle.df_world.proofs.laws.events_keep_a_world_sound.Goals as goal

pub returns-clause-sound : goal.returns-clause-sound
returns-clause-sound g c = λ laws start w e sound happens. event_sound _ laws start w sound e happens

pub returns-clause-invariant : goal.returns-clause-invariant
returns-clause-invariant g c = λ laws start unstaged w e sound happens s. invariant_of _ laws start (after _ w e) (event_sound _ laws start w sound e happens) s (unstaged s)
