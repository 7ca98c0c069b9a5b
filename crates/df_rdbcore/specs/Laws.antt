-- Statements of laws.
use Rattle.std.specs.Prelude.{◌≡◌, ℕ, ◌^◌, ◌<◌, ◌≤◌, List, ◌++◌, length}
use Rattle.std.specs.List.{AllByRecursion, flat_map}
use Rattle.df_model.specs.Values.{Bytes}
use Rattle.df_model.specs.Keyspace.{Keyspace}
use Rattle.df_model.specs.Framing.{IsWord}
use Rattle.df_limits.specs.Limits.{IsWithin}
use Rattle.df_rdbcore.specs.Crc.{crc}
use Rattle.df_rdbcore.specs.Texts.{IsLength}
use Rattle.df_rdbcore.specs.Parts.{Entry, NoneTwice, firsts}
use Rattle.df_rdbcore.specs.Files.{IsFile, Spells, keyspace_of}
use Rattle.df_rdbcore.specs.Written.{IsCounted, short, written_head, written_entry, written_end}

-- a file spells at most one keyspace
abbrev pub SpellsOne : Type 0
SpellsOne = (bytes : Bytes) (K K' : Keyspace) → Spells bytes K → Spells bytes K' → K ≡ K'

-- and has its entries in one order
abbrev pub HasOneOrder : Type 0
HasOneOrder = (bytes : Bytes) (entries entries' : List Entry) → IsFile bytes entries → IsFile bytes entries' → entries ≡ entries'

-- the written form of a length is one, and none is shorter
abbrev pub ShortIsLength : Type 0
ShortIsLength = (n : ℕ) → n < 2 ^ 64 → IsLength (short n) n

abbrev pub ShortIsShortest : Type 0
ShortIsShortest = (n : ℕ) (bytes : Bytes) → IsLength bytes n → length (short n) ≤ length bytes

-- head, entries and end, as they are written
abbrev pub written_body : List Entry → Bytes
written_body entries = written_head ++ flat_map (λ entry. written_entry entry.0 entry.1) entries

abbrev pub AreWithin : List Entry → Type 0
AreWithin = AllByRecursion (λ entry. IsWord entry.0 × IsWithin entry.1 × IsCounted entry.1)

-- what is written of entries within the limits, no key twice, spells just these
abbrev pub WrittenSpells : Type 0
WrittenSpells =
    (entries : List Entry) → AreWithin entries → NoneTwice (firsts entries) →
    Spells (written_body entries ++ written_end (crc (written_body entries))) (keyspace_of entries)
