-- Bytes that were added at the end.
use Rattle.std.specs.Prelude.{◌≡◌, ◌++◌}
use Rattle.df_model.specs.Values.{Bytes}

-- the new bytes begin with the old ones
pub record GrowsBy (old new : Bytes) : Type 0 where
  pub more : Bytes
  pub added : new ≡ old ++ more
