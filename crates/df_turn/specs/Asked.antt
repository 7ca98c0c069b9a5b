-- What is read of the keys that a call asks for on a shard.
use Rattle.std.specs.Prelude.{Option, Some, None, List, [], map}
use Rattle.df_model.specs.Values.{Bytes}
use Rattle.df_model.specs.declared.keys.Mode.{Mode}
use Rattle.df_model.specs.declared.keys.Keys.{Keys}
use Rattle.df_model.specs.declared.keys.Keys.TheVariants as kinds
use Rattle.df_log.specs.Acts.{Act, Read}

-- the keys that are named, each with its mode
abbrev pub keys_named : Option Keys → List (Bytes × Mode)
keys_named None = []
keys_named (Some (kinds.Some keys)) = keys.items
keys_named (Some (kinds.All mode)) = []

-- they are read
abbrev pub read_named : Option Keys → Option Act
read_named None = None
read_named (Some (kinds.Some keys)) = Some (Read (map (λ k. k.0) keys.items))
read_named (Some (kinds.All mode)) = None

-- not all keys are asked for
abbrev pub IsNaming : Option Keys → Type 0
IsNaming None = Unit {0}
IsNaming (Some (kinds.Some keys)) = Unit {0}
IsNaming (Some (kinds.All mode)) = ⊥
