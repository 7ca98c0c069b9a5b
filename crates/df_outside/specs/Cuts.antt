-- Bytes in pieces, some of which were taken.
use Rattle.std.specs.Prelude.{ℕ, List, [], ◌∷◌, ◌++◌, take, drop}
use Rattle.std.specs.List.{concat}

-- the bytes that were taken, and the pieces that are left, none of them empty
pub record Cut : Type 0 where
  pub taken : List ℕ
  pub left : List (List ℕ)

-- this piece, unless it is empty, and then the others
abbrev pub piece_then : List ℕ → List (List ℕ) → List (List ℕ)
piece_then [] more = more
piece_then (byte ∷ bytes) more = (byte ∷ bytes) ∷ more

-- the pieces that aren't empty
abbrev pub filled : List (List ℕ) → List (List ℕ)
filled [] = []
filled (piece ∷ more) = piece_then piece (filled more)

-- what a read with this much room takes: as much of the first piece as fits
abbrev pub next_bytes : ℕ → List (List ℕ) → List ℕ
next_bytes room [] = []
next_bytes room (piece ∷ more) = take room piece

abbrev pub left_after : ℕ → List (List ℕ) → List (List ℕ)
left_after room [] = []
left_after room (piece ∷ more) = piece_then (drop room piece) more

abbrev pub cut_after : ℕ → Cut → Cut
cut_after room cut = record { taken = cut.taken ++ next_bytes room cut.left; left = left_after room cut.left }

-- the first piece of these, or nothing
abbrev pub first_of_pieces : List (List ℕ) → List ℕ
first_of_pieces [] = []
first_of_pieces (piece ∷ more) = piece

-- the pieces without the first bytes of the first one
abbrev pub begun : ℕ → List (List ℕ) → List (List ℕ)
begun at [] = []
begun at (piece ∷ more) = drop at piece ∷ more

-- the pieces before the one of this number were taken, and so many bytes of this one
abbrev pub cut_at : ℕ → ℕ → List (List ℕ) → Cut
cut_at number at pieces =
    record {
      taken = concat (take number pieces) ++ take at (first_of_pieces (drop number pieces));
      left = filled (begun at (drop number pieces));
    }
