-- The form in which a file is written: the shortest lengths, no string as a number.
use Rattle.std.specs.Prelude.{ℕ, ◌<◌, ◌+◌, ◌/◌, ◌%◌, ◌^◌, nat_lt, if◌then◌else◌, [], ◌∷◌, ◌++◌, length}
use Rattle.std.specs.Int.{w32, w64, to_be_bytes, to_le_bytes}
use Rattle.std.specs.List.{flat_map}
use Rattle.std.specs.FinMap as fields
use Rattle.df_model.specs.Values.{Bytes, Value}
use Rattle.df_model.specs.Members as members
use Rattle.df_rdbcore.specs.Crc.{crc_from}
use Rattle.df_rdbcore.specs.Parts.{Pair}
use Rattle.df_rdbcore.specs.Files.{head}

-- a length in its shortest form
abbrev pub short : ℕ → Bytes
short n =
    if nat_lt n (2 ^ 6) then n ∷ []
    else (if nat_lt n (2 ^ 14) then (64 + n / 256) ∷ (n % 256) ∷ []
    else (if nat_lt n (2 ^ 32) then 0x80 ∷ to_be_bytes w32 n
    else 0x81 ∷ to_be_bytes w64 n))

abbrev pub written_text : Bytes → Bytes
written_text text = short (length text) ++ text

abbrev pub written_pair : Pair → Bytes
written_pair pair = written_text pair.0 ++ written_text pair.1

-- the first byte of an entry
abbrev pub kind_byte : Value → ℕ
kind_byte (Value.Str text) = 0
kind_byte (Value.Elements texts) = 1
kind_byte (Value.Set texts) = 2
kind_byte (Value.Hash pairs) = 4

-- lists in their order, fields and members in byte order
abbrev pub written_value : Value → Bytes
written_value (Value.Str text) = written_text text
written_value (Value.Elements texts) = short (length texts) ++ flat_map written_text texts
written_value (Value.Set texts) = short (members.len texts) ++ flat_map written_text (members.items texts)
written_value (Value.Hash pairs) = short (fields.len pairs) ++ flat_map written_pair (fields.entries pairs)

abbrev pub written_entry : Bytes → Value → Bytes
written_entry key value = kind_byte value ∷ (written_text key ++ written_value value)

-- version 9, and database 0
abbrev pub written_head : Bytes
written_head = head 9 ++ 0xFE ∷ 0 ∷ []

-- what stands behind bytes with this sum: FF, and the sum with it
abbrev pub written_end : ℕ → Bytes
written_end sum = 0xFF ∷ to_le_bytes w64 (crc_from sum (0xFF ∷ []))

-- the count that stands before the elements is one that a file can have
abbrev pub IsCounted : Value → Type 0
IsCounted (Value.Str text) = Unit {0}
IsCounted (Value.Elements texts) = length texts < 2 ^ 64
IsCounted (Value.Set texts) = members.len texts < 2 ^ 64
IsCounted (Value.Hash pairs) = fields.len pairs < 2 ^ 64
