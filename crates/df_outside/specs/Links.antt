-- Links: what a read or a write that answered so did, a row an answer.
use Rattle.std.specs.Prelude.{◌≡◌, ℕ, ◌+◌, ◌<◌, ◌≤◌, Bool, true, false, List, Option, Some, None, [], length, take}
use Rattle.std.specs.Io.KnownBytes.{Appends}
use Rattle.df_outside.specs.Faults.{Rose}
use Rattle.df_outside.specs.declared.streams.Got.{Got}
use Rattle.df_outside.specs.declared.streams.Got.TheVariants as got
use Rattle.df_outside.specs.declared.streams.Put.{Put}
use Rattle.df_outside.specs.declared.streams.Put.TheVariants as put

-- the bytes that were taken and written, where it tells them; whether it said End; how often a read and a write failed;
-- how often either had to wait; and the bytes that may still be taken at the most, where it has a limit and tells it
pub record Flow : Type 0 where
  pub taken : Option (List ℕ)
  pub written : Option (List ℕ)
  pub ended : Bool
  pub read_faults : ℕ
  pub write_faults : ℕ
  pub waits : ℕ
  pub left : Option ℕ

-- so many bytes are gone from what may still be taken
abbrev pub Spends : Option ℕ → Option ℕ → ℕ → Type 0
Spends None None n = Unit {0}
Spends (Some before) (Some now) n = now + n ≡ before
Spends None (Some now) n = ⊥
Spends (Some before) None n = ⊥

-- a read took these bytes, and left what was written
pub record TookIn (old new : Flow) (bytes : List ℕ) : Type 0 where
  pub taken : Appends old.taken new.taken bytes
  pub written : new.written ≡ old.written
  pub read_faults : old.read_faults ≤ new.read_faults
  pub write_faults : new.write_faults ≡ old.write_faults
  pub waits : old.waits ≤ new.waits
  pub left : Spends old.left new.left (length bytes)

-- the link hasn't said End, before or now
pub record IsOpen (old new : Flow) : Type 0 where
  pub before : old.ended ≡ false
  pub now : new.ended ≡ false

-- a link with a limit never waits
abbrev pub LinkReads : Got → Flow → Flow → List ℕ → Type 0
LinkReads (got.Took n) old new buf = (0 < n) × (n ≤ length buf) × TookIn old new (take n buf) × IsOpen old new
-- End is answered once and then for ever
LinkReads got.End old new buf = TookIn old new [] × (new.ended ≡ true)
LinkReads got.NotYet old new buf = TookIn old new [] × IsOpen old new × Rose old.waits new.waits × (old.left ≡ None)
LinkReads got.Failed old new buf = TookIn old new [] × IsOpen old new × Rose old.read_faults new.read_faults
LinkReads got.NoMemory old new buf = TookIn old new [] × IsOpen old new

-- a write wrote these bytes, and left what was taken
pub record PutOut (old new : Flow) (bytes : List ℕ) : Type 0 where
  pub written : Appends old.written new.written bytes
  pub taken : new.taken ≡ old.taken
  pub ended : new.ended ≡ old.ended
  pub read_faults : new.read_faults ≡ old.read_faults
  pub write_faults : old.write_faults ≤ new.write_faults
  pub waits : old.waits ≤ new.waits
  pub left : new.left ≡ old.left

abbrev pub LinkWrites : Put → Flow → Flow → List ℕ → Type 0
LinkWrites (put.Took n) old new piece = (0 < n) × (n ≤ length piece) × PutOut old new (take n piece)
LinkWrites put.NotYet old new piece = PutOut old new [] × Rose old.waits new.waits × (old.left ≡ None)
LinkWrites put.Failed old new piece = PutOut old new [] × Rose old.write_faults new.write_faults
LinkWrites put.NoMemory old new piece = PutOut old new []
