-- The commands that this crate does, and the values that are no strings to them.
use Rattle.std.specs.Prelude.{◌≡◌, ℕ, length, Some, None}
use Rattle.df_model.specs.Spared.{Spared}
use Rattle.df_model.specs.Values.{Bytes}
use Rattle.df_model.specs.Values as plain
use Rattle.df_model.specs.Outcomes.{Outcome, count}
use Rattle.df_model.specs.Outcomes as outcomes
use Rattle.df_model.specs.Meaning.Strings.{set, overwritten}
use Rattle.df_model.specs.declared.command.Guard.{Guard}
use Rattle.df_values.specs.declared.value.Value.{Value}
use Rattle.df_values.specs.declared.value.Value.TheVariants as values
use Rattle.df_values.specs.declared.change.Change.{Change}
use Rattle.df_values.specs.declared.change.Change.TheVariants as changes
use Rattle.df_values.specs.Seen.{seen}
use Rattle.df_values.specs.Prepares.{Makes}
use Rattle.df_model.specs.declared.command.Family.{Family}
use Rattle.df_model.specs.declared.command.Family.TheVariants as families

-- the families whose commands this crate does
abbrev pub Serves : Family → Type 0
Serves families.Any = Unit {0}
Serves families.Strings = Unit {0}
Serves families.Lists = ⊥
Serves families.Hashes = ⊥
Serves families.Sets = ⊥

-- a value of another kind
abbrev pub IsOther : plain.Value → Type 0
IsOther (plain.Value.Str bytes) = ⊥
IsOther (plain.Value.Elements elements) = Unit {0}
IsOther (plain.Value.Hash fields) = Unit {0}
IsOther (plain.Value.Set members) = Unit {0}

-- a string of these bytes is put
pub record Puts (bytes : Bytes) (change : Change) : Type 0 where
  pub text : Spared ℕ
  pub is : change ≡ changes.Put (values.Str text)
  pub same : text.items ≡ bytes

-- SET where the key holds whatever value
abbrev pub Sets : Bytes → Guard → Bytes → Change → Type 0
Sets bytes guard reply change = (value : Value) → Makes (set bytes guard (Some (seen value))) (Some value) reply change

-- the outcome is the same where the key is missing and where it holds a string
pub record MakesText (outcome : Outcome) (reply : Bytes) (change : Change) : Type 0 where
  pub missing : Makes outcome None reply change
  pub text : (text : Spared ℕ) → Makes outcome (Some (values.Str text)) reply change

-- what SETRANGE gives where there are bytes to write, and the string isn't too long then
abbrev pub written : ℕ → Bytes → Bytes → Outcome
written at new old = (count (length (overwritten at new old)), outcomes.Change.Put (plain.Value.Str (overwritten at new old)))
