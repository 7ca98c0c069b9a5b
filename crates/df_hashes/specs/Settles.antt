-- What a change is worth, apart from the reply beside it.
use Rattle.std.specs.Prelude.{◌≡◌, Option}
use Rattle.df_model.specs.Outcomes as outcomes
use Rattle.df_values.specs.declared.value.Value.{Value}
use Rattle.df_values.specs.declared.change.Change.{Change}
use Rattle.df_values.specs.declared.change.Change.TheVariants as changes
use Rattle.df_values.specs.Edits.{applied, edited, Fits, Alters}
use Rattle.df_values.specs.Seen.{seen, seen_held}

-- `held` is what the key holds when the change is made
pub record Settles (wanted : outcomes.Change) (held : Option Value) (made : Change) : Type 0 where
  pub change : applied made (seen_held held) ≡ outcomes.settled wanted (seen_held held)
  pub fits : Fits made held
  pub alters : Alters made (seen_held held)

-- what a change of this value becomes where the key holds nothing
abbrev pub IsPutFresh : Change → Value → Change → Type 0
IsPutFresh changes.Keep value fresh = fresh ≡ changes.Keep
IsPutFresh (changes.Put new) value fresh = fresh ≡ changes.Put new
IsPutFresh changes.Delete value fresh = fresh ≡ changes.Keep
IsPutFresh (changes.Edit edit) value fresh = (new : Value) × ((fresh ≡ changes.Put new) × (seen new ≡ edited edit (seen value)))
