-- What real objects tell: how many bytes an answer of a socket may speak of, and the faults of a door.
use Rattle.std.specs.Prelude.{ℕ, ◌<◌, ◌≤◌, ⊤, None}
use Rattle.df_outside.specs.Doors.{Hall}
use Rattle.df_outside.specs.Faults.{Rose}
use Rattle.df_outside.specs.declared.disks.Done.{Done}
use Rattle.df_outside.specs.declared.disks.Done.TheVariants as done
use Rattle.df_outside.specs.declared.disks.Had.{Had}
use Rattle.df_outside.specs.declared.disks.Had.TheVariants as had
use Rattle.df_outside.specs.declared.streams.Got.{Got}
use Rattle.df_outside.specs.declared.streams.Got.TheVariants as got
use Rattle.df_outside.specs.declared.streams.Put.{Put}
use Rattle.df_outside.specs.declared.streams.Put.TheVariants as put

-- a read that took something took one byte at least, and no more than the buffer has
abbrev pub GotBound : Got → ℕ → Type 0
GotBound (got.Took n) most = (0 < n) × (n ≤ most)
GotBound got.End most = ⊤
GotBound got.NotYet most = ⊤
GotBound got.Failed most = ⊤
GotBound got.NoMemory most = ⊤

-- a write that took something took one byte at least, and no more than the piece has
abbrev pub PutBound : Put → ℕ → Type 0
PutBound (put.Took n) most = (0 < n) × (n ≤ most)
PutBound put.NotYet most = ⊤
PutBound put.Failed most = ⊤
PutBound put.NoMemory most = ⊤

-- a door that tells nothing but how often it failed
abbrev pub hall_of : ℕ → Hall
hall_of faults = record { given = None; shut = None; faults = faults }

-- what a call on a disk came to that tells nothing of its bytes
abbrev pub DoneOf : Done → ℕ → ℕ → Type 0
DoneOf done.Ok before now = before ≤ now
DoneOf done.Failed before now = Rose before now
DoneOf done.NoMemory before now = before ≤ now

-- what a read of a disk into so many bytes came to
abbrev pub HadOf : Had → ℕ → ℕ → ℕ → Type 0
HadOf (had.Took n) most before now = (0 < n) × (n ≤ most) × (before ≤ now)
HadOf had.End most before now = before ≤ now
HadOf had.Missing most before now = before ≤ now
HadOf had.Failed most before now = Rose before now
HadOf had.NoMemory most before now = before ≤ now
