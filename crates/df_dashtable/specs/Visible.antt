-- The visible entries of buckets, and the map that they spell.
use Rattle.std.specs.Prelude.{◌≡◌, ℕ, List, [], map, Bool, cond, ltb, Option, Some, None}
use Rattle.std.specs.List.{filter, filter_map, flat_map}
use Rattle.std.specs.Option.{option_to_list}
use Rattle.std.specs.Str.{bytes_eq}
use Rattle.std.specs.Ordering.{nat_cmp}
use Rattle.std.specs.Cmp.Lexicographic.{slice_cmp}
use Rattle.std.specs.FinMap.{FinMap, get}
use Rattle.df_model.specs.Values.{Bytes}
use Rattle.df_segment.specs.Entries.{Slot}
use Rattle.df_segment.specs.Buckets.{Bucket}

module _ {V : Type 0} where
  abbrev pub visible_of : Slot V → Option (Bytes × V)
  visible_of e = cond e.staged None (Some (e.key, e.value))

  abbrev pub visible_in : Bucket V → List (Bytes × V)
  visible_in b = filter_map visible_of b.entries

  abbrev pub is_under : Bytes → Bytes × V → Bool
  is_under key pair = bytes_eq pair.0 key

  -- the pairs of a key
  abbrev pub under : Bytes → List (Bytes × V) → List (Bytes × V)
  under key pairs = filter (is_under key) pairs

  abbrev pub visible_entries : List (Bucket V) → List (Bytes × V)
  visible_entries bs = flat_map visible_in bs

  -- the visible entries of a bucket that is older than a version, else nothing
  abbrev pub older_in : ℕ → Bucket V → List (Bytes × V)
  older_in version b = cond (ltb b.version version) (visible_in b) []

  abbrev pub older_entries : ℕ → List (Bucket V) → List (Bytes × V)
  older_entries version bs = flat_map (older_in version) bs

  -- the pairs are those of the map, each once
  abbrev pub Spells : List (Bytes × V) → FinMap (slice_cmp nat_cmp) V → Type 0
  Spells pairs K = (key : Bytes) → map (λ e. e.1) (under key pairs) ≡ option_to_list (get K key)
