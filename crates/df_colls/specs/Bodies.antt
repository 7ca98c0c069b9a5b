-- How the entries of a map lie: in one vector, or in chunks.
use Rattle.std.specs.Prelude.{ℕ, ◌-◌, ◌≤◌, List, min, vec_len, vec_capacity}
use Rattle.df_model.specs.Values.{Bytes}
use Rattle.df_colls.specs.declared.chunks.TheConstants.{FULL}
use Rattle.df_colls.specs.declared.entries.Body.{Body}
use Rattle.df_colls.specs.declared.entries.Body.TheVariants.{Small, Large}
use Rattle.df_colls.specs.Cuts.{flat}

abbrev pub entries_of : {X : Type 0} → Body X → List (Bytes × X)
entries_of (Small items) = items.items
entries_of (Large chunks) = flat chunks.value.parts

-- how many puts find room
abbrev pub room_of : {X : Type 0} → Body X → ℕ
room_of (Small items) = min (vec_capacity items) FULL - vec_len items
room_of (Large chunks) = chunks.value.spare

-- one vector holds no more than a chunk does
abbrev pub IsShort : {X : Type 0} → Body X → Type 0
IsShort (Small items) = vec_len items ≤ FULL
IsShort (Large chunks) = Unit {0}
