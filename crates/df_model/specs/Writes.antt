-- How a byte string is hashed by the maps of std: all its bytes in one write. Equal ones make equal writes.
use Rattle.std.specs.Prelude.{◌≡◌, List, [], ◌∷◌, IsTrue, nat_eq}
use Rattle.std.specs.Cmp.Lexicographic.{pointwise}
use Rattle.std.proofs.Common.{ap}
use Rattle.std.proofs.lemmas.Slice.Eq.{bytes_eq-Decides}
use Rattle.df_model.specs.Values.{Bytes}

abbrev pub writes : Bytes → List Bytes
writes bytes = bytes ∷ []

pub same_writes : (x y : Bytes) → IsTrue (pointwise nat_eq x y) → writes x ≡ writes y
same_writes x y h = ap writes ((bytes_eq-Decides x y).0 h)
