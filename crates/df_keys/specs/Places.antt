-- Where a key stands in a list of keys in byte order.
use Rattle.std.specs.Prelude.{◌≡◌, ◌<◌, ◌≤◌, Some, List, length, get_or, slice_set}
use Rattle.std.specs.List.{insert}
use Rattle.std.specs.Ordering.{nat_cmp}
use Rattle.std.specs.Cmp.Lexicographic.{slice_cmp}
use Rattle.std.specs.FinMap.Entries.{find, put}
use Rattle.df_model.specs.Values.{Bytes}
use Rattle.df_model.specs.declared.keys.Mode.{Mode}
use Rattle.df_keys.specs.declared.few.Place.{Place}
use Rattle.df_keys.specs.declared.few.Place.TheVariants as places

-- the key is here, or else a map of these entries would put it here
abbrev pub IsPlace : Bytes → List (Bytes × Mode) → Place → Type 0
IsPlace key es (places.Held at held) =
    (at < length es) × (get_or es at (key, held) ≡ (key, held)) × (find (slice_cmp nat_cmp) key es ≡ Some held) × ((new : Mode) → put (slice_cmp nat_cmp) key new es ≡ slice_set es at (key, new))
IsPlace key es (places.Free at) = (at ≤ length es) × ((new : Mode) → put (slice_cmp nat_cmp) key new es ≡ insert es at (key, new))
