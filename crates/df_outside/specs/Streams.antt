-- Where bytes come from and where they go: what a read or a write that answered so did, a row an answer.
use Rattle.std.specs.Prelude.{◌≡◌, ℕ, ◌<◌, ◌≤◌, Bool, true, false, List, Option, [], length, take}
use Rattle.std.specs.Io.KnownBytes.{Appends}
use Rattle.df_outside.specs.Faults.{Rose}
use Rattle.df_outside.specs.declared.streams.Got.{Got}
use Rattle.df_outside.specs.declared.streams.Got.TheVariants as got
use Rattle.df_outside.specs.declared.streams.Put.{Put}
use Rattle.df_outside.specs.declared.streams.Put.TheVariants as put

-- a source: the bytes that were taken from it, where it tells them; whether it said End; how often it failed
pub record Inflow : Type 0 where
  pub taken : Option (List ℕ)
  pub ended : Bool
  pub faults : ℕ

-- a sink: the bytes that were written to it, where it tells them; how often it failed
pub record Outflow : Type 0 where
  pub written : Option (List ℕ)
  pub faults : ℕ

-- a read that didn't come to End took these bytes: the source hasn't said End, before or now
pub record Continues (old new : Inflow) (bytes : List ℕ) : Type 0 where
  pub taken : Appends old.taken new.taken bytes
  pub open_before : old.ended ≡ false
  pub open_now : new.ended ≡ false

-- End is answered once and then for ever, and takes nothing
pub record Closes (old new : Inflow) : Type 0 where
  pub taken : Appends old.taken new.taken []
  pub ended : new.ended ≡ true
  pub faults : old.faults ≤ new.faults

-- the bytes that were taken stand in front of the buffer; a source never answers NotYet
abbrev pub Reads : Got → Inflow → Inflow → List ℕ → Type 0
Reads (got.Took n) old new buf = (0 < n) × (n ≤ length buf) × Continues old new (take n buf) × (old.faults ≤ new.faults)
Reads got.End old new buf = Closes old new
Reads got.NotYet old new buf = ⊥
Reads got.Failed old new buf = Continues old new [] × Rose old.faults new.faults
Reads got.NoMemory old new buf = Continues old new [] × (old.faults ≤ new.faults)

-- the first bytes of the piece were written; a sink never answers NotYet
abbrev pub Writes : Put → Outflow → Outflow → List ℕ → Type 0
Writes (put.Took n) old new piece = (0 < n) × (n ≤ length piece) × Appends old.written new.written (take n piece) × (old.faults ≤ new.faults)
Writes put.NotYet old new piece = ⊥
Writes put.Failed old new piece = Appends old.written new.written [] × Rose old.faults new.faults
Writes put.NoMemory old new piece = Appends old.written new.written [] × (old.faults ≤ new.faults)
