-- What arrives at a link, some of which was taken.
use Rattle.std.specs.Prelude.{◌≡◌, ℕ, ◌<◌, List, [], ◌∷◌, ◌++◌, length, take, drop}
use Rattle.df_outside.specs.declared.arrivals.Arrival.{Arrival}
use Rattle.df_outside.specs.declared.arrivals.Arrival.TheVariants as arrival
use Rattle.df_outside.specs.declared.streams.Got.{Got}
use Rattle.df_outside.specs.declared.streams.Got.TheVariants as got

-- the bytes that were taken, and what is left, no arrival of it empty
pub record Taken : Type 0 where
  pub taken : List ℕ
  pub left : List Arrival

-- these bytes, unless there are none, and then the others
abbrev pub bytes_then : List ℕ → List Arrival → List Arrival
bytes_then [] more = more
bytes_then (byte ∷ bytes) more = arrival.Bytes (byte ∷ bytes) ∷ more

-- what comes of these, without the empty ones
abbrev pub coming : List Arrival → List Arrival
coming [] = []
coming (arrival.Bytes piece ∷ more) = bytes_then piece (coming more)
coming (arrival.NotYet ∷ more) = arrival.NotYet ∷ coming more

-- the bytes of one arrival
abbrev pub bytes_of : Arrival → List ℕ
bytes_of (arrival.Bytes piece) = piece
bytes_of arrival.NotYet = []

-- the bytes of all
abbrev pub all_bytes : List Arrival → List ℕ
all_bytes [] = []
all_bytes (first ∷ more) = bytes_of first ++ all_bytes more

-- what a read with this much room takes: as much of the first arrival as fits
abbrev pub next_bytes : ℕ → List Arrival → List ℕ
next_bytes room [] = []
next_bytes room (first ∷ more) = take room (bytes_of first)

-- what is left after it; an arrival that waits is gone
abbrev pub left_after : ℕ → List Arrival → List Arrival
left_after room [] = []
left_after room (first ∷ more) = bytes_then (drop room (bytes_of first)) more

abbrev pub taken_after : ℕ → Taken → Taken
taken_after room old = record { taken = old.taken ++ next_bytes room old.left; left = left_after room old.left }

-- the bytes of the first of these, or none
abbrev pub first_bytes : List Arrival → List ℕ
first_bytes [] = []
first_bytes (first ∷ more) = bytes_of first

-- the arrivals without the first bytes of the first one
abbrev pub begun : ℕ → List Arrival → List Arrival
begun at [] = []
begun at (arrival.Bytes piece ∷ more) = arrival.Bytes (drop at piece) ∷ more
begun at (arrival.NotYet ∷ more) = arrival.NotYet ∷ more

-- the arrivals before the one of this number were taken, and so many bytes of this one
abbrev pub taken_at : ℕ → ℕ → List Arrival → Taken
taken_at number at arrivals =
    record {
      taken = all_bytes (take number arrivals) ++ take at (first_bytes (drop number arrivals));
      left = coming (begun at (drop number arrivals));
    }

-- what a read of the arrivals came to, with the buffer before and after it; the rows exclude each other
abbrev pub Arrives : Got → Taken → Taken → List ℕ → List ℕ → Type 0
Arrives (got.Took n) old new before after =
    (0 < n)
    × (n ≡ length (next_bytes (length before) old.left))
    × (after ≡ next_bytes (length before) old.left ++ drop n before)
    × (new ≡ taken_after (length before) old)
Arrives got.End old new before after = (old.left ≡ []) × (after ≡ before) × (new ≡ old)
Arrives got.NotYet old new before after = (old.left ≡ arrival.NotYet ∷ new.left) × (after ≡ before) × (new.taken ≡ old.taken)
Arrives got.Failed old new before after = ⊥
Arrives got.NoMemory old new before after = ⊥
