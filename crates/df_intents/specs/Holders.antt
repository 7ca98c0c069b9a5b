-- The holders of intents on a shard, and who conflicts with them.
use Rattle.std.specs.Prelude.{ℕ, ◌==◌, Bool, true, ◌&&◌, not, max, cond, length, is_some, Option, Some, None, List, [], ◌∷◌}
use Rattle.df_model.specs.Values.{Bytes}
use Rattle.df_model.specs.Spared.{all_of}
use Rattle.df_model.specs.declared.keys.Mode.{Mode}
use Rattle.df_model.specs.declared.keys.Keys.{Keys}
use Rattle.df_model.specs.declared.keys.Keys.TheVariants as kinds
use Rattle.df_footprints.specs.Asks.{conflicts}

-- a call, by its number, and what it asked for
pub record Holder : Type 0 where
  pub number : ℕ
  pub keys : Keys

-- the holders, the last that took its intents first, and for how many further asks there is room
pub record Holding : Type 0 where
  pub holders : List Holder
  pub spare : ℕ

-- what the call with this number holds
abbrev pub keys_of : ℕ → List Holder → Option Keys
keys_of number [] = None
keys_of number (h ∷ hs) = cond (h.number == number) (Some h.keys) (keys_of number hs)

abbrev pub holds : ℕ → List Holder → Bool
holds number hs = is_some (keys_of number hs)

-- no holder conflicts with these keys
abbrev pub is_free : Keys → List Holder → Bool
is_free keys [] = true
is_free keys (h ∷ hs) = not (conflicts keys h.keys) && is_free keys hs

-- one key alone, in this mode
abbrev pub just : Bytes → Mode → Keys
just key mode = kinds.Some (all_of ((key, mode) ∷ []))

-- the holders that have other numbers than this, in their order
abbrev pub without : ℕ → List Holder → List Holder
without number [] = []
without number (h ∷ hs) = cond (h.number == number) (without number hs) (h ∷ without number hs)

-- how many asks these are: one for each key, and one for all of them
abbrev pub count_of : Keys → ℕ
count_of (kinds.Some modes) = length modes.items
count_of (kinds.All mode) = 1

-- for how many asks there has to be room before a call takes them: also one that asks for nothing is a holder
abbrev pub room_of : Keys → ℕ
room_of keys = max 1 (count_of keys)
