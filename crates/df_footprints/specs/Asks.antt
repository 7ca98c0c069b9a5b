-- What a call asks for on a shard, and which asks can't be had at the same time.
use Rattle.std.specs.Prelude.{Bool, true, false, ◌&&◌, ◌||◌, Option, Some, None, List, [], ◌∷◌}
use Rattle.df_model.specs.Values.{Bytes}
use Rattle.df_model.specs.Words.{same}
use Rattle.df_model.specs.declared.keys.Mode.{Mode}
use Rattle.df_model.specs.declared.keys.Mode.TheVariants.{Shared, Exclusive}
use Rattle.df_model.specs.declared.keys.Keys.{Keys}
use Rattle.df_model.specs.declared.keys.Keys.TheVariants as kinds

-- one key, or all keys of the shard, to be read or to be written too
pub record Ask : Type 0 where
  pub key : Option Bytes
  pub mode : Mode

abbrev pub asks_for : List (Bytes × Mode) → List Ask
asks_for [] = []
asks_for (m ∷ modes) = record { key = Some m.0; mode = m.1 } ∷ asks_for modes

-- the asks, one by one
abbrev pub asks : Keys → List Ask
asks (kinds.Some modes) = asks_for modes.items
asks (kinds.All mode) = record { key = None; mode = mode } ∷ []

abbrev pub is_exclusive : Mode → Bool
is_exclusive Shared = false
is_exclusive Exclusive = true

-- the same key, or one of the two is all
abbrev pub overlap : Option Bytes → Option Bytes → Bool
overlap None key = true
overlap (Some key) None = true
overlap (Some key) (Some other) = same key other

-- ---- conflicts

-- they meet in a key, and one of the two is to write it
abbrev pub clash : Ask → Ask → Bool
clash a b = overlap a.key b.key && (is_exclusive a.mode || is_exclusive b.mode)

abbrev pub clashes_with : Ask → List Ask → Bool
clashes_with a [] = false
clashes_with a (b ∷ more) = clash a b || clashes_with a more

abbrev pub some_clash : List Ask → List Ask → Bool
some_clash [] bs = false
some_clash (a ∷ more) bs = clashes_with a bs || some_clash more bs

-- an ask of the one clashes with an ask of the other
abbrev pub conflicts : Keys → Keys → Bool
conflicts keys others = some_clash (asks keys) (asks others)

-- ---- what the asks allow

-- the key is asked for
abbrev pub touches : List Ask → Bytes → Bool
touches [] key = false
touches (a ∷ more) key = overlap a.key (Some key) || touches more key

-- the key is asked for, to be written
abbrev pub writes : List Ask → Bytes → Bool
writes [] key = false
writes (a ∷ more) key = (is_exclusive a.mode && overlap a.key (Some key)) || writes more key
