-- Lengths and strings as a file has them.
use Rattle.std.specs.Prelude.{◌≡◌, ℕ, ◌+◌, ◌/◌, ◌%◌, ◌^◌, ◌<◌, [], ◌∷◌, ◌++◌, length}
use Rattle.std.specs.Int.{Width, w8, w16, w32, w64, cast_signed, to_be_bytes, to_le_bytes}
use Rattle.std.specs.Fmt.{signed_decimal}
use Rattle.df_model.specs.Values.{Bytes}
use Rattle.df_model.specs.Framing.{IsWord}

-- the forms of a length; a longer one than needed may be read
pub data IsLength (bytes : Bytes) (n : ℕ) : Type 0 where
  -- top bits 00: the low six bits
  Six : n < 2 ^ 6 → bytes ≡ n ∷ [] → IsLength bytes n
  -- top bits 01: the low six bits and a byte, high part first
  Fourteen : n < 2 ^ 14 → bytes ≡ (64 + n / 256) ∷ (n % 256) ∷ [] → IsLength bytes n
  -- 80 and 32 bits, 81 and 64 bits, high part first
  ThirtyTwo : n < 2 ^ 32 → bytes ≡ 0x80 ∷ to_be_bytes w32 n → IsLength bytes n
  SixtyFour : n < 2 ^ 64 → bytes ≡ 0x81 ∷ to_be_bytes w64 n → IsLength bytes n

-- a signed number of so many bytes in place of a string
pub data NumberForm : Type 0 where
  One : NumberForm
  Two : NumberForm
  Four : NumberForm

-- the byte before it
abbrev pub mark : NumberForm → ℕ
mark NumberForm.One = 0xC0
mark NumberForm.Two = 0xC1
mark NumberForm.Four = 0xC2

-- how many numbers there are of it
abbrev pub limit : NumberForm → ℕ
limit NumberForm.One = 2 ^ 8
limit NumberForm.Two = 2 ^ 16
limit NumberForm.Four = 2 ^ 32

abbrev pub width : NumberForm → Width
width NumberForm.One = w8
width NumberForm.Two = w16
width NumberForm.Four = w32

-- the forms of a string: a length and so many bytes, or a number, low byte first, that stands for its decimal
pub data IsText (bytes text : Bytes) : Type 0 where
  Plain : (head : Bytes) → IsLength head (length text) → IsWord text → bytes ≡ head ++ text → IsText bytes text
  Number : (form : NumberForm) (n : ℕ) → n < limit form → text ≡ signed_decimal (cast_signed (width form) n) → bytes ≡ mark form ∷ to_le_bytes (width form) n → IsText bytes text
