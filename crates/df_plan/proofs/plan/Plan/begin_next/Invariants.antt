use Rattle.std.proofs.Common.{◌-◌, length}
use Rattle.df_model.specs.declared.command.Call.{Call}
use Rattle.df_rounds.specs.Progress.{Progress}
use Rattle.df_plan.specs.Commands.{Rests}
use Rattle.df_plan.specs.Plans.{Moves}
use Rattle.df_plan.proofs.plan.Plan.begin_next.Given as goal

-- after some commands the call has moved on, and rests
abbrev pub invariant-commands : goal.invariant-commands
invariant-commands l =
    (call : Call) (progress : Progress) → Rests l.fn.shards call progress l.fn.self l.fn.slip →
    (now : Progress) × Moves l.fn.shards call progress now × Rests l.fn.shards call now l.self l.slip

abbrev pub decreases-commands : goal.decreases-commands
decreases-commands l = length l.self.turns.items - l.self.at
