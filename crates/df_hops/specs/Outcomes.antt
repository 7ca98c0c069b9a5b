-- What is seen of an outcome.
use Rattle.std.specs.Prelude.{ℕ, Option, List}
use Rattle.df_model.specs.Values.{Bytes, Value}

-- what is seen of an answer from outside: of a reply its bytes, and of a cut that begins nothing
pub data Said : Type 0 where
  Reply : Bytes → Said
  Values : List (Option Value) → Said
  Staged : Said
  Applied : Said
  Names : List Bytes → Said
  Number : ℕ → Said
  NoMemory : Said
  -- of notes
  Nothing : Said
