-- The commands that are prepared here, and what preparing one on a list promises.
use Rattle.df_model.specs.Values.{Bytes}
use Rattle.df_model.specs.Outcomes.{Outcome}
use Rattle.df_model.specs.Spared.{Spared}
use Rattle.df_model.specs.declared.command.Family.{Family}
use Rattle.df_model.specs.declared.command.Family.TheVariants.{Any, Strings, Lists, Hashes, Sets}
use Rattle.std.specs.Prelude.{Some}
use Rattle.df_values.specs.declared.value.Value.TheVariants as values
use Rattle.df_values.specs.declared.change.Change.{Change}
use Rattle.df_values.specs.Prepares.{Makes}

abbrev pub Serves : Family → Type 0
Serves Any = ⊥
Serves Strings = ⊥
Serves Lists = Unit {0}
Serves Hashes = ⊥
Serves Sets = ⊥

-- the key holds this list
abbrev pub MakesOn : Outcome → Spared Bytes → Bytes → Change → Type 0
MakesOn outcome list reply change = Makes outcome (Some (values.List list)) reply change
