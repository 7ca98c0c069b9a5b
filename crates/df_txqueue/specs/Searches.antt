-- What a search for a number tells of the places.
use Rattle.std.specs.Prelude.{◌≡◌, ℕ, ◌<◌, List, length, slice_index_or, Some, None, true}
use Rattle.std.specs.List.{remove}
use Rattle.df_txqueue.specs.declared.place.Place.{Place}
use Rattle.df_txqueue.specs.Places.{Ascending, is_queued, place_of, without}

-- the call with this number stands at this index
pub record Found (number : ℕ) (ps : List Place) (at : ℕ) : Type 0 where
  pub within : at < length ps
  pub place : (p : Place) → p ≡ slice_index_or ps at p → place_of number ps ≡ Some p
  pub queued : is_queued number ps ≡ true
  pub removed : remove ps at ≡ without number ps
  pub sorted : Ascending (remove ps at)

-- no call with this number stands here
pub record Missing (number : ℕ) (ps : List Place) : Type 0 where
  pub place : place_of number ps ≡ None
  pub same : without number ps ≡ ps
