-- A command whose keys stand on several shards, run over what these told of them.
use Rattle.std.specs.Prelude.{◌≡◌, ℕ, zero, suc, ◌<◌, length, Option, List, [], ◌∷◌, map}
use Rattle.std.specs.Option.{option_map}
use Rattle.std.specs.FinMap as fin
use Rattle.df_model.specs.Values.{Bytes}
use Rattle.df_model.specs.Values as plain
use Rattle.df_model.specs.Spared.{Spared}
use Rattle.df_model.specs.Meaning.{meaning}
use Rattle.df_model.specs.Replies.{encoding_of}
use Rattle.df_model.specs.declared.command.Command.{Command}
use Rattle.df_model.specs.declared.keys.Mode.{Mode}
use Rattle.df_values.specs.declared.value.Value.{Value}
use Rattle.df_values.specs.Seen.{seen}
use Rattle.df_footprints.specs.Footprints.{modes_on}
use Rattle.df_log.specs.Acts.{Changes, Told}
use Rattle.df_core.specs.Due.{values_in}
use Rattle.df_core.specs.Courses.{changes_on}
use Rattle.df_rounds.specs.Standing.{values_told}

-- ---- what is given

-- the keys of shard s with their modes; past the last there are none
abbrev pub modes_at : List (Spared (Bytes × Mode)) → ℕ → List (Bytes × Mode)
modes_at [] s = []
modes_at (modes ∷ more) zero = modes.items
modes_at (modes ∷ more) (suc s) = modes_at more s

-- on each shard there are the keys that the command names there, each in its strongest mode, in byte order
pub record KeysStand (shards : ℕ) (command : Command) (keys : List (Spared (Bytes × Mode))) : Type 0 where
  pub count : length keys ≡ shards
  pub each : (s : ℕ) → s < shards → modes_at keys s ≡ fin.entries (modes_on shards s (command ∷ []))

-- what the keys of shard s hold, as a keyspace has it; past the last there is nothing
abbrev pub values_at : List (Spared (Option Value)) → ℕ → List (Option plain.Value)
values_at [] s = []
values_at (values ∷ more) zero = map (option_map seen) values.items
values_at (values ∷ more) (suc s) = values_at more s

-- for each key there is what it holds
pub record ValuesStand (keys : List (Spared (Bytes × Mode))) (values : List (Spared (Option Value))) : Type 0 where
  pub count : length values ≡ length keys
  pub each : (s : ℕ) → length (values_at values s) ≡ length (modes_at keys s)

-- the shards told these values
abbrev pub TellsAll : (ℕ → Told) → List (Spared (Option Value)) → Type 0
TellsAll told values = (s : ℕ) → values_in (told s) ≡ values_at values s

-- ---- what is answered

-- changes as a log has them
abbrev pub changes_seen : List (Bytes × Option Value) → Changes
changes_seen changes = map (λ c. (c.0, option_map seen c.1)) changes

-- the changes of shard s; past the last there are none
abbrev pub changes_at : List (Spared (Bytes × Option Value)) → ℕ → List (Bytes × Option Value)
changes_at [] s = []
changes_at (changes ∷ more) zero = changes.items
changes_at (changes ∷ more) (suc s) = changes_at more s

-- the bytes are the command's reply on what was told, and for each shard there is what the command changes there
pub record RunsOver (shards : ℕ) (command : Command) (told : ℕ → Told) (made : List (Spared (Bytes × Option Value))) (bytes : Bytes) : Type 0 where
  pub reply : bytes ≡ encoding_of (meaning command (values_told shards command told)).0
  pub count : length made ≡ shards
  pub changes : (s : ℕ) → s < shards → changes_seen (changes_at made s) ≡ changes_on shards s command (values_told shards command told)
