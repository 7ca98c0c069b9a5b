-- What a step makes of the holders before it.
use Rattle.std.specs.Prelude.{suc, [], ◌∷◌}
use Rattle.df_intents.specs.Holders.{without}
use Rattle.df_intents.specs.Trails.{Trailed}
use Rattle.df_intents.specs.declared.trail.Step.{Step}
use Rattle.df_intents.specs.declared.trail.Step.TheVariants as step

-- what came before is a value that a snapshot remembers
abbrev pub trailed_of : Step → Trailed
trailed_of step.None = record { holders = []; steps = 0 }
trailed_of (step.Took before number keys) =
    record { holders = record { number = number.value; keys = keys.value } ∷ before.value.holders; steps = suc before.value.steps }
trailed_of (step.Released before number) = record { holders = without number.value before.value.holders; steps = suc before.value.steps }
