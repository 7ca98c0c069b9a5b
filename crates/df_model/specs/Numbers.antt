-- Canonical decimals: `0`, or a digit from 1 to 9 and further digits; where signed, also `-` and one of these but `0`.
use Rattle.std.specs.Prelude.{ℕ, ◌+◌, ◌-◌, ◌*◌, ◌^◌, [], ◌∷◌, Option, Some, None, Bool, ◌&&◌, leb, ltb, eqb, if◌then◌else◌, ℤ, pos, negsuc, neg_ℤ}
use Rattle.df_model.specs.Values.{Bytes}

abbrev pub is_digit : ℕ → Bool
is_digit b = leb 48 b && leb b 57

-- the number that these digits make after the number so far
abbrev pub digits : ℕ → Bytes → Option ℕ
digits so_far [] = Some so_far
digits so_far (b ∷ bs) = if is_digit b then digits (so_far * 10 + (b - 48)) bs else None

-- a canonical decimal without a sign
abbrev pub natural : Bytes → Option ℕ
natural [] = None
natural (b ∷ []) = digits 0 (b ∷ [])
natural (b ∷ c ∷ bs) = if eqb b 48 then None else digits 0 (b ∷ c ∷ bs)

-- the number, where it is below the limit
abbrev pub below : ℕ → Option ℕ → Option ℕ
below limit None = None
below limit (Some n) = if ltb n limit then Some n else None

abbrev pub positive : Option ℕ → Option ℤ
positive None = None
positive (Some n) = Some (pos n)

-- no number after the sign stands for 0
abbrev pub negative : Option ℕ → Option ℤ
negative None = None
negative (Some n) = if eqb n 0 then None else Some (neg_ℤ (pos n))

-- a canonical decimal within unsigned 64 bits
abbrev pub unsigned : Bytes → Option ℕ
unsigned text = below (2 ^ 64) (natural text)

-- a canonical decimal within signed 64 bits
abbrev pub signed : Bytes → Option ℤ
signed [] = None
signed (b ∷ bs) =
    if eqb b 45 then negative (below (2 ^ 63 + 1) (natural bs)) else positive (below (2 ^ 63) (natural (b ∷ bs)))

-- within signed 64 bits
abbrev pub fits : ℤ → Bool
fits (pos n) = ltb n (2 ^ 63)
fits (negsuc n) = ltb n (2 ^ 63)

-- the number that a stored text counts as, 0 where there is none
abbrev pub counter : Option Bytes → Option ℤ
counter None = Some (pos 0)
counter (Some text) = signed text
