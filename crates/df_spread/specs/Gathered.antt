-- What was told, gathered into one keyspace.
use Rattle.std.specs.Prelude.{◌≡◌, ℕ, ◌+◌, length, Option, List, [], ◌∷◌, map}
use Rattle.std.specs.Option.{option_map}
use Rattle.df_model.specs.Values.{Bytes}
use Rattle.df_model.specs.Keyspace.{Keyspace}
use Rattle.df_model.specs.Spared.{Spared}
use Rattle.df_model.specs.declared.keys.Mode.{Mode}
use Rattle.df_values.specs.declared.value.Value.{Value}
use Rattle.df_values.specs.Seen.{seen}
use Rattle.df_core.specs.Due.{with_values}

-- keys without their modes
abbrev pub keys_in : List (Bytes × Mode) → List Bytes
keys_in modes = map (λ m. m.0) modes

-- how many keys there are on all shards together
abbrev pub count_all : List (Spared (Bytes × Mode)) → ℕ
count_all [] = 0
count_all (modes ∷ more) = length modes.items + count_all more

-- the keyspace in which the keys of each shard hold what was told of them
abbrev pub gathered : List (Spared (Bytes × Mode)) → List (Spared (Option Value)) → Keyspace → Keyspace
gathered keys [] K = K
gathered [] (told ∷ values) K = K
gathered (modes ∷ more) (told ∷ values) K = gathered more values (with_values (keys_in modes.items) (map (option_map seen) told.items) K)

-- shard by shard there are as many values as keys
abbrev pub AreAsMany : List (Spared (Bytes × Mode)) → List (Spared (Option Value)) → Type 0
AreAsMany [] [] = Unit {0}
AreAsMany [] (told ∷ values) = ⊥
AreAsMany (modes ∷ more) [] = ⊥
AreAsMany (modes ∷ more) (told ∷ values) = (length told.items ≡ length modes.items) × AreAsMany more values
