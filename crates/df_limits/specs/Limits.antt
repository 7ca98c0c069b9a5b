-- The limits that a keyspace keeps: each byte string in it is as long as a word of a request may be, or shorter, and no
-- list, hash or set in it is empty.
use Rattle.std.specs.Prelude.{◌≡◌, ◌<◌, length, Some}
use Rattle.std.specs.Ordering.{nat_cmp}
use Rattle.std.specs.Cmp.Lexicographic.{slice_cmp}
use Rattle.std.specs.List.{AllByRecursion}
use Rattle.std.specs.FinMap.{FinMap}
use Rattle.std.specs.FinMap as map
use Rattle.df_model.specs.Values.{Bytes, Value}
use Rattle.df_model.specs.Keyspace.{Keyspace}
use Rattle.df_model.specs.Framing.{IsWord}

-- this holds of each key that is there, and what stands under it
abbrev pub Each : {X : Type 0} → (Bytes → X → Type 0) → FinMap (slice_cmp nat_cmp) X → Type 0
Each {X} P m = (key : Bytes) (there : X) → map.get m key ≡ Some there → P key there

abbrev pub IsWithin : Value → Type 0
IsWithin (Value.Str bytes) = IsWord bytes
IsWithin (Value.Elements elements) = (0 < length elements) × AllByRecursion IsWord elements
IsWithin (Value.Hash fields) = (0 < map.len fields) × Each (λ field bytes. IsWord field × IsWord bytes) fields
IsWithin (Value.Set members) = (0 < map.len members) × Each (λ member there. IsWord member) members

abbrev pub KeepsLimits : Keyspace → Type 0
KeepsLimits = Each (λ key value. IsWord key × IsWithin value)
