-- What the calls that gather keys by shard answer, and those that put them into the places.
use Rattle.std.specs.Prelude.{◌≡◌, ℕ, ◌<◌, Option, List, [], ◌∷◌, ◌++◌, get_or, length, map}
use Rattle.std.specs.Global.{Box}
use Rattle.df_model.specs.Values.{Bytes}
use Rattle.df_model.specs.Meaning.{firsts}
use Rattle.df_model.specs.declared.keys.Keys.{Keys}
use Rattle.df_model.specs.declared.keys.Mode.{Mode}
use Rattle.df_model.specs.declared.keys.Mode.TheVariants.{Shared, Exclusive}
use Rattle.df_footprints.specs.Footprints.{in_mode, on_shard}
use Rattle.df_footprints.specs.Naming.{Adds}
use Rattle.df_keys.specs.Asked.{footprint_there}
use Rattle.df_keys.specs.declared.gather.Modes.{Modes}
use Rattle.df_keys.specs.declared.gather.Modes.TheVariants.{Few, Many}
use Rattle.df_keys.specs.declared.named.Named.{Named}
use Rattle.df_keys.specs.declared.named.Named.TheVariants as kinds

-- the keys that are lent, each with its mode
abbrev pub keys_named : Named → List (Bytes × Mode)
keys_named kinds.Nothing = []
keys_named (kinds.One key mode) = (key.now, mode) ∷ []
keys_named (kinds.Read keys) = in_mode Shared keys.now
keys_named (kinds.Written keys) = in_mode Exclusive keys.now
keys_named (kinds.WrittenPairs pairs) = in_mode Exclusive (firsts pairs.now)
keys_named (kinds.BothWritten a b) = (a.now, Exclusive) ∷ (b.now, Exclusive) ∷ []
keys_named (kinds.Stored keys key) = in_mode Shared keys.now ++ (key.now, Exclusive) ∷ []

-- the keys with their modes, in byte order
abbrev pub entries_of : Modes → List (Bytes × Mode)
entries_of (Few list) = list.items
entries_of (Many tree) = tree.entries

-- the keys of shard s with their modes, in byte order; past the last there are none
abbrev pub entries_at : ℕ → List Modes → List (Bytes × Mode)
entries_at s maps = get_or (map entries_of maps) s []

-- of each shard there are no keys
pub record AreEmpty (shards : ℕ) (maps : List Modes) : Type 0 where
  pub count : length maps ≡ shards
  pub each : (s : ℕ) → entries_at s maps ≡ []

-- each of the named keys was put to its shard
pub record Gathers (shards : ℕ) (named : List (Bytes × Mode)) (old new : List Modes) : Type 0 where
  pub count : length new ≡ length old
  pub each : (s : ℕ) → s < shards → Adds (entries_at s old) (on_shard shards s named) (entries_at s new)

-- there is a place for each shard, in which this is asked for
pub record StandAs (shards : ℕ) (asked : ℕ → Option Keys) (keys : List (Option (Box Keys))) : Type 0 where
  pub count : length keys ≡ shards
  pub each : (s : ℕ) → s < shards → footprint_there s keys ≡ asked s
