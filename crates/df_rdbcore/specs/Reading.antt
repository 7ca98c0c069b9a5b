-- A cursor, and what a call on it came to.
use Rattle.std.specs.Prelude.{◌≡◌, ℕ, ◌+◌, ◌-◌, ◌^◌, ◌⊎◌, min, [], ◌∷◌, ◌++◌, length, Option, Some, None, Result, Ok, Err}
use Rattle.df_model.specs.Values.{Bytes}
use Rattle.df_rdbcore.specs.Crc.{crc_from}
use Rattle.df_rdbcore.specs.Texts.{IsLength, IsText}
use Rattle.df_rdbcore.specs.Seen.{AwaitsLength, AwaitsText, BeginsNoLength, BeginsNoText, BeginsCompressed, BeginsTooLong}
use Rattle.df_rdbcore.specs.declared.fault.LoadFault.{LoadFault}
use Rattle.df_rdbcore.specs.declared.fault.LoadFault.TheVariants as faults

-- a place in a file, as far as the code counts
abbrev pub place_of : ℕ → ℕ
place_of n = min n (2 ^ 64 - 1)

-- what was fed and isn't taken; how many bytes were taken, and their sum
pub record Stand : Type 0 where
  pub rest : Bytes
  pub place : ℕ
  pub sum : ℕ

-- these bytes are taken
pub record Takes (form : Bytes) (old new : Stand) : Type 0 where
  pub rest : old.rest ≡ form ++ new.rest
  pub place : new.place ≡ place_of (old.place + length form)
  pub sum : new.sum ≡ crc_from old.sum form

abbrev pub TakesByte : Option ℕ → Stand → Stand → Type 0
TakesByte None old new = (old.rest ≡ []) × (new ≡ old)
TakesByte (Some b) old new = Takes (b ∷ []) old new

-- a byte that begins no length
abbrev pub LengthFault : LoadFault → Stand → Type 0
LengthFault (faults.BadLength at) s = (at ≡ s.place) × BeginsNoLength s.rest
LengthFault faults.BadMagic s = ⊥
LengthFault faults.BadVersion s = ⊥
LengthFault (faults.Truncated at) s = ⊥
LengthFault (faults.Unsupported code at) s = ⊥
LengthFault (faults.UnknownType code at) s = ⊥
LengthFault (faults.BadPart kind at) s = ⊥
LengthFault (faults.Duplicate kind at) s = ⊥
LengthFault (faults.BadChecksum stored computed at) s = ⊥
LengthFault (faults.ReadFault at) s = ⊥
LengthFault faults.NoMemory s = ⊥

-- a whole length is taken; else nothing is, since more bytes are needed or since no length stands there
abbrev pub TakesLength : Result (Option ℕ) LoadFault → Stand → Stand → Type 0
TakesLength (Ok (Some n)) old new = (form : Bytes) × IsLength form n × Takes form old new
TakesLength (Ok None) old new = (new ≡ old) × AwaitsLength old.rest
TakesLength (Err fault) old new = (new ≡ old) × LengthFault fault old

-- a byte that begins no string, a string that is too long, a compressed one, or want of memory
abbrev pub TextFault : LoadFault → Stand → Type 0
TextFault (faults.BadLength at) s = (at ≡ s.place) × (BeginsNoText s.rest ⊎ BeginsTooLong s.rest)
TextFault (faults.Unsupported code at) s = (code ≡ 195) × (at ≡ s.place) × BeginsCompressed s.rest
TextFault faults.NoMemory s = Unit {0}
TextFault faults.BadMagic s = ⊥
TextFault faults.BadVersion s = ⊥
TextFault (faults.Truncated at) s = ⊥
TextFault (faults.UnknownType code at) s = ⊥
TextFault (faults.BadPart kind at) s = ⊥
TextFault (faults.Duplicate kind at) s = ⊥
TextFault (faults.BadChecksum stored computed at) s = ⊥
TextFault (faults.ReadFault at) s = ⊥

abbrev pub TakesText : Result (Option Bytes) LoadFault → Stand → Stand → Type 0
TakesText (Ok (Some text)) old new = (form : Bytes) × IsText form text × Takes form old new
TakesText (Ok None) old new = (new ≡ old) × AwaitsText old.rest
TakesText (Err fault) old new = (new ≡ old) × TextFault fault old
