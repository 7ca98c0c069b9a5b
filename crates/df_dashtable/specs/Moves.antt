-- What goes from the older buckets to a hook.
use Rattle.std.specs.Prelude.{◌≡◌, List, ◌++◌}
use Rattle.df_model.specs.Values.{Bytes}
use Rattle.df_dashtable.specs.Visible.{under}

-- the older entries were `old` and are now `new`, and `moved` went out
abbrev pub Moves : {V : Type 0} → List (Bytes × V) → List (Bytes × V) → List (Bytes × V) → Type 0
Moves old moved new = (key : Bytes) → under key old ≡ under key (moved ++ new)

-- a part of a list was taken out
pub record TakenOut {X : Type 0} (old part new : List X) : Type 0 where
  pub before : List X
  pub behind : List X
  pub old_is : old ≡ before ++ (part ++ behind)
  pub new_is : new ≡ before ++ behind
