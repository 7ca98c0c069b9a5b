-- What is asked for on each shard, as a list.
use Rattle.std.specs.Prelude.{◌≡◌, ℕ, ◌<◌, Option, None, List, get_or, length}
use Rattle.std.specs.Option.{option_map}
use Rattle.std.specs.Global.{Box}
use Rattle.df_model.specs.declared.keys.Keys.{Keys}
use Rattle.df_model.specs.declared.command.Call.{Call}
use Rattle.df_footprints.specs.Footprints.{footprint_of}

-- what is asked for on shard s
abbrev pub footprint_there : ℕ → List (Option (Box Keys)) → Option Keys
footprint_there s keys = option_map (λ k. k.value) (get_or keys s None)

-- the list has what the call asks for on each shard
abbrev pub FootprintsStand : ℕ → Call → List (Option (Box Keys)) → Type 0
FootprintsStand shards call keys =
    (length keys ≡ shards) × ((s : ℕ) → s < shards → footprint_there s keys ≡ footprint_of shards call s)
