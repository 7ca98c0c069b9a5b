-- How many asks there are, told apart by what they let others do.
use Rattle.std.specs.Prelude.{ℕ, ◌+◌, ◌==◌, Bool, true, false, ◌&&◌, ◌||◌, cond, Option, Some, None, List, [], ◌∷◌, ◌++◌}
use Rattle.df_model.specs.Values.{Bytes}
use Rattle.df_model.specs.Hash.{fnv64}
use Rattle.df_model.specs.declared.keys.Mode.{Mode}
use Rattle.df_model.specs.declared.keys.Mode.TheVariants.{Shared, Exclusive}
use Rattle.df_footprints.specs.Asks.{Ask, asks, is_exclusive}
use Rattle.df_intents.specs.Holders.{Holder}
use Rattle.df_intents.specs.declared.count.Count.{Count}

-- an ask for one key
abbrev pub for_key : Bytes → Mode → Ask
for_key key mode = record { key = Some key; mode = mode }

-- an ask for all keys
abbrev pub for_all : Mode → Ask
for_all mode = record { key = None; mode = mode }

-- all that the holders ask for
abbrev pub held : List Holder → List Ask
held [] = []
held (h ∷ hs) = asks h.keys ++ held hs

-- ---- which asks are counted together

-- those for the keys with this hash
abbrev pub has_hash : ℕ → Option Bytes → Bool
has_hash hash None = false
has_hash hash (Some key) = fnv64 key == hash

-- those for all keys
abbrev pub is_all : Option Bytes → Bool
is_all None = true
is_all (Some key) = false

-- every ask
abbrev pub is_any : Option Bytes → Bool
is_any key = true

-- ---- counts

-- an ask in the one mode doesn't go together with an ask in the other
abbrev pub opposes : Mode → Mode → Bool
opposes mode other = is_exclusive mode || is_exclusive other

-- what an ask in the other mode adds to the count of those that this mode doesn't go together with
abbrev pub weight : Mode → Mode → ℕ
weight mode other = cond (opposes mode other) 1 0

-- the ask passes, and doesn't go together with one in this mode
abbrev pub counts : (Option Bytes → Bool) → Mode → Ask → Bool
counts test mode a = test a.key && opposes mode a.mode

-- how many do
abbrev pub counted : (Option Bytes → Bool) → Mode → List Ask → ℕ
counted test mode [] = 0
counted test mode (a ∷ more) = cond (counts test mode a) 1 0 + counted test mode more

-- the count of those asks that an ask in this mode doesn't go together with
abbrev pub against : Mode → Count → ℕ
against Shared count = count.exclusive
against Exclusive count = count.any

-- no asks
abbrev pub none : Count
none = record { any = 0; exclusive = 0 }
