-- Statements of laws.
use Rattle.std.specs.Prelude.{◌≡◌, ◌↔◌, ℕ, ℤ, ◌^◌, ◌<◌, Some, true}
use Rattle.std.specs.Fmt.{decimal, signed_decimal}
use Rattle.df_model.specs.Values.{Bytes}
use Rattle.df_model.specs.Numbers.{signed, unsigned, fits}

-- a text is read as this number exactly where it is the number's decimal and the number is within signed 64 bits
abbrev pub SignedAreDecimals : Type 0
SignedAreDecimals = (text : Bytes) (n : ℤ) → (signed text ≡ Some n) ↔ ((text ≡ signed_decimal n) × (fits n ≡ true))

-- the same without a sign, within unsigned 64 bits
abbrev pub UnsignedAreDecimals : Type 0
UnsignedAreDecimals = (text : Bytes) (n : ℕ) → (unsigned text ≡ Some n) ↔ ((text ≡ decimal n) × (n < 2 ^ 64))
