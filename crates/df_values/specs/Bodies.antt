-- How the bytes of a reply lie: in place, or in buffers.
use Rattle.std.specs.Prelude.{ℕ, List}
use Rattle.df_values.specs.declared.pieces.Body.{Body}
use Rattle.df_values.specs.declared.pieces.Body.TheVariants.{Here, Away}

abbrev pub bytes_in : Body → List ℕ
bytes_in (Here short alloc) = short
bytes_in (Away rest) = rest
