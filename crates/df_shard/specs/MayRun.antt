-- Whose turn it is among the calls that wait.
use Rattle.std.specs.Prelude.{ℕ, ◌==◌, Bool, true, false, ◌||◌, ◌&&◌, Option, Some, None, List, [], ◌∷◌}
use Rattle.df_txqueue.specs.Places.{place_of}
use Rattle.df_txqueue.specs.declared.place.Place.{Place}
use Rattle.df_shard.specs.Holds.{Wait, Hopping}

abbrev pub is_granted : Option Place → Bool
is_granted None = false
is_granted (Some p) = p.granted

abbrev pub is_head : ℕ → List Place → Bool
is_head n [] = false
is_head n (p ∷ ps) = p.number == n

-- the call was granted what it asked for, or is the oldest
abbrev pub may_run : ℕ → List Place → Bool
may_run n places = is_granted (place_of n places) || is_head n places

abbrev pub is_some : Option Hopping → Bool
is_some None = false
is_some (Some a) = true

abbrev pub has_armed : Wait → Bool
has_armed w = is_some w.armed

-- a hop of it is armed, and it is its turn
abbrev pub is_ready : List Place → Wait → Bool
is_ready places w = has_armed w && may_run w.number places
