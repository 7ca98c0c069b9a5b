-- What a place among entries in the order of their keys tells of the map that they make.
use Rattle.std.specs.Prelude.{◌≡◌, ℕ, zero, suc, ◌+◌, ◌<◌, ◌≤◌, Bool, true, false, ◌⊎◌, List, [], ◌∷◌, length, take, drop, slice_index_or, slice_set, Some, None, T}
use Rattle.std.specs.List.{insert, remove}
use Rattle.std.specs.declared.cmp.Ordering.TheVariants.{Less, Equal, Greater}
use Rattle.std.specs.FinMap.{FinMap, is_sorted}
use Rattle.std.specs.FinMap as map
use Rattle.df_model.specs.Values.{Bytes}
use Rattle.df_colls.specs.Roomy.{order}
use Rattle.df_colls.specs.declared.chunks.Place.{Place}
use Rattle.df_colls.specs.Cuts.{flat, index_of, IsPlace, IsGap}

abbrev pub made : {X : Type 0} → List (Bytes × X) → FinMap order X
made = map.from_sorted

-- the entries are in order, and make this map
pub record Makes {X : Type 0} (es : List (Bytes × X)) (m : FinMap order X) : Type 0 where
  pub sorted : T (is_sorted order es)
  pub same : made es ≡ m

-- the entry at this place has the key
pub record Present {X : Type 0} (key : Bytes) (es : List (Bytes × X)) (i : ℕ) : Type 0 where
  pub within : i < length es
  pub value : (e : Bytes × X) → e ≡ slice_index_or es i e → map.get (made es) key ≡ Some e.1
  pub again : (value : X) → Makes (slice_set es i (key, value)) (map.insert (made es) key value)
  pub removed : Makes (remove es i) (map.remove (made es) key)

-- no entry has the key, and this is the place to which one would go
pub record Absent {X : Type 0} (key : Bytes) (es : List (Bytes × X)) (i : ℕ) : Type 0 where
  pub within : i ≤ length es
  pub value : map.get (made es) key ≡ None
  pub added : (value : X) → Makes (insert es i (key, value)) (map.insert (made es) key value)
  pub removed : map.remove (made es) key ≡ made es

-- each key is above k
abbrev pub AllAbove : {X : Type 0} → Bytes → List (Bytes × X) → Type 0
AllAbove k [] = Unit {0}
AllAbove k (e ∷ es) = (order k e.0 ≡ Less) × AllAbove k es

-- each key is below k
abbrev pub AllBelow : {X : Type 0} → Bytes → List (Bytes × X) → Type 0
AllBelow k [] = Unit {0}
AllBelow k (e ∷ es) = (order k e.0 ≡ Greater) × AllBelow k es

-- the entry at i has the key k, and those before it have lesser keys
abbrev pub IsAt : {X : Type 0} → Bytes → List (Bytes × X) → ℕ → Type 0
IsAt k [] i = ⊥
IsAt k (e ∷ es) zero = order k e.0 ≡ Equal
IsAt k (e ∷ es) (suc i) = (order k e.0 ≡ Greater) × IsAt k es i

-- the keys before i are less than k, and those from i on are greater
abbrev pub GoesTo : {X : Type 0} → Bytes → List (Bytes × X) → ℕ → Type 0
GoesTo k es zero = AllAbove k es
GoesTo k [] (suc i) = ⊥
GoesTo k (e ∷ es) (suc i) = (order k e.0 ≡ Greater) × GoesTo k es i

-- the key stands at this place
pub record IsFound {X : Type 0} (key : Bytes) (parts : List (List (Bytes × X))) (place : Place) : Type 0 where
  pub within : IsPlace parts place
  pub present : Present key (flat parts) (index_of parts place)

-- no entry has the key, which would go to this place
pub record IsMissing {X : Type 0} (key : Bytes) (parts : List (List (Bytes × X))) (place : Place) : Type 0 where
  pub within : 0 < length parts → IsGap parts place
  pub absent : Absent key (flat parts) (index_of parts place)

-- keys in the chunks before this one are below, and those in the chunks behind it above
pub record IsHome {X : Type 0} (key : Bytes) (parts : List (List (Bytes × X))) (i : ℕ) : Type 0 where
  pub before : AllBelow key (flat (take i parts))
  pub behind : AllAbove key (flat (drop (i + 1) parts))

-- whether the first key is above
abbrev pub Starts : {X : Type 0} → Bytes → List (Bytes × X) → Bool → Type 0
Starts key [] above = above ≡ false
Starts key (e ∷ es) true = order key e.0 ≡ Less
Starts key (e ∷ es) false = (order key e.0 ≡ Equal) ⊎ (order key e.0 ≡ Greater)
