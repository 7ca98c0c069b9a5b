-- Buffers one after another.
use Rattle.std.specs.Prelude.{List, [], ◌∷◌, ◌++◌}
use Rattle.df_model.specs.Values.{Bytes}

abbrev pub joined : List Bytes → Bytes
joined [] = []
joined (buffer ∷ buffers) = buffer ++ joined buffers
