-- CRC-64 as the format has it: bits lowest first, from 0, and nothing is done to the remainder at the end.
use Rattle.std.specs.Prelude.{ℕ, zero, suc, ◌*◌, ◌^◌, ◌/◌, ◌%◌, ◌==◌, bit_xor, if◌then◌else◌, [], ◌∷◌}
use Rattle.df_model.specs.Values.{Bytes}

-- the polynomial 0xad93d23594c935a9 with its bits turned round, since bits are taken lowest first
abbrev pub POLYNOMIAL : ℕ
POLYNOMIAL = 0x95ac_9329_ac4b_c9b5

-- the lowest bit leaves the remainder, and where it was set the polynomial is taken off
abbrev pub shifted : ℕ → ℕ
shifted r = if r % 2 == 0 then r / 2 else bit_xor (r / 2) POLYNOMIAL

unfoldable pub shifts : ℕ → ℕ → ℕ
shifts zero r = r
shifts (suc n) r = shifts n (shifted r)

-- a byte's eight bits stand against the lowest of the remainder
unfoldable pub with_byte : ℕ → ℕ → ℕ
with_byte r b = shifts 8 (bit_xor r b)

-- further bytes after a remainder
abbrev pub crc_from : ℕ → Bytes → ℕ
crc_from r [] = r
crc_from r (b ∷ bs) = crc_from (with_byte r b) bs

abbrev pub crc : Bytes → ℕ
crc bs = crc_from 0 bs

-- a remainder with another 64 bits above it, which stand against what follows after eight bytes
abbrev pub widened : ℕ → ℕ → ℕ
widened r above = bit_xor (above * 2 ^ 64) r
