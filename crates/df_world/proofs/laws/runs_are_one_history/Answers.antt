use Rattle.df_order.proofs.LogsAlone.{items_rise}
use Rattle.df_world.specs.World.{first, logs}
use Rattle.df_world.proofs.Events.{first_sound, runs_sound}
use Rattle.df_world.proofs.OneList.{the_list_legal}
use Rattle.std.proofs.Common.{pred}
use Rattle.df_world.proofs.laws.runs_are_one_history.Goals as goal

pub returns-clause-legal : goal.returns-clause-legal
returns-clause-legal g c = λ laws idle start events w unstaged runs finished replies finds. the_list_legal _ laws start unstaged w (runs_sound _ laws start events (first _ idle start) w (first_sound _ start idle unstaged) runs) finished replies finds

pub returns-clause-rising : goal.returns-clause-rising
returns-clause-rising g c = λ w finished replies. items_rise g.C.Commands.model w.call (logs g.C.Commands.model w) replies finished 1 (pred w.counter)
