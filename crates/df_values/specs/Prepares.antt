-- What preparing a command promises: the reply's bytes and the change are the row's.
use Rattle.std.specs.Prelude.{◌≡◌, Option}
use Rattle.df_model.specs.Outcomes.{Outcome, settled}
use Rattle.df_model.specs.Values.{Bytes}
use Rattle.df_model.specs.Replies.{encoding_of}
use Rattle.df_values.specs.declared.value.Value.{Value}
use Rattle.df_values.specs.declared.change.Change.{Change}
use Rattle.df_values.specs.Edits.{applied, Fits, Alters}
use Rattle.df_values.specs.Seen.{seen_held}

-- what a command writes as its reply, and the change that is left to make; `held` is what the key holds when the
-- change is made
pub record Makes (outcome : Outcome) (held : Option Value) (bytes : Bytes) (made : Change) : Type 0 where
  pub reply : bytes ≡ encoding_of outcome.0
  pub change : applied made (seen_held held) ≡ settled outcome.1 (seen_held held)
  pub fits : Fits made held
  pub alters : Alters made (seen_held held)
