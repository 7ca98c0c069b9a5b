-- One bit of a number as a flag.
use Rattle.std.proofs.Common.{◌≡◌, Bool, true, false, ℕ, zero, suc, ◌+◌, ◌-◌, ◌*◌, ◌/◌, ◌%◌, ◌^◌, ◌<◌, ◌≤◌, List, [], ◌∷◌, length, get_or, map, replicate, cond, eqb, refl, ap, sym, subst, ◌∙◌, arith, w8, bit_and, inl, inr}
use Rattle.std.proofs.Common.{pow_pos}
use Rattle.std.specs.Int.{bit_at}
use Rattle.std.proofs.lemmas.Bool.{eqb-true, eq-eqb, cases_lt}
use Rattle.std.proofs.lemmas.Nat.{shr-shr, shr_split, one_shl, shl_whole, shr_below, shr_le, mul-le}
use Rattle.std.proofs.lemmas.Nat.Bits.{bit_at_cat_low, bit_at_cat_high, bit_at_and, bit_at_ones, bit_at_ones_above, bit_at-zero}
use Rattle.std.specs.Simd.Lanes.{zip2, mask_l, top}
use Rattle.std.proofs.lemmas.Simd.{bitmask_splat, bit_mask_l}
use Rattle.df_segment.specs.Entries.{flag_at}

pub bit_of : (n k : ℕ) → flag_at n k ≡ true → bit_at n k ≡ 1
bit_of n k h = eqb-true (bit_at n k) 1 h

pub flag_of : (n k : ℕ) → bit_at n k ≡ 1 → flag_at n k ≡ true
flag_of n k h = eq-eqb (bit_at n k) 1 h

-- no flag of 0 is set
pub no_flag : (k : ℕ) → flag_at 0 k ≡ false
no_flag k = ap (λ b. eqb b 1) (bit_at-zero k)

-- the low bits alone
low_bits : (n i k : ℕ) → k < i → bit_at (n % 2 ^ i) k ≡ bit_at n k
low_bits n i k w = sym (bit_at_cat_low (n / 2 ^ i) i (n % 2 ^ i) k w) ∙ ap (λ m. bit_at m k) (shr_split n i)

high_bits : (n i k : ℕ) → i ≤ k → bit_at (n / 2 ^ (i + 1)) (k - i) ≡ bit_at n (k + 1)
high_bits n i k w = ap (λ m. m % 2) (shr-shr n (i + 1) (k - i)) ∙ ap (λ m. n / 2 ^ m % 2) (let e : (i + 1) + (k - i) ≡ k + 1 = omega arith in e)

half_less : (n i : ℕ) → n / 2 ^ (i + 1) ≤ n / 2 ^ i
half_less n i = subst (λ m. m ≤ n / 2 ^ i) (shr-shr n i 1) (shr_le (n / 2 ^ i) 1)

-- what the code computes of a number of 16 bits without the bit i
abbrev pub gap : ℕ → ℕ → ℕ
gap n i = n / 2 ^ (i + 1) * 2 ^ i % 2 ^ 16 + n % (1 * 2 ^ i % 2 ^ 16)

pub gap_is : (n i : ℕ) → n < 2 ^ 16 → i < 15 → gap n i ≡ n / 2 ^ (i + 1) * 2 ^ i + n % 2 ^ i
gap_is n i fits w =
    let j : 15 - i + (i + 1) ≡ 16 = omega arith in
    let small : n / 2 ^ (i + 1) < 2 ^ (15 - i) = shr_below n (15 - i) (i + 1) (subst (λ m. n < 2 ^ m) (sym j) fits) in
    ap (λ m. m + n % (1 * 2 ^ i % 2 ^ 16)) (shl_whole (n / 2 ^ (i + 1)) (15 - i) i 16 small (omega arith))
    ∙ ap (λ m. n / 2 ^ (i + 1) * 2 ^ i + n % m) (one_shl i 16 (omega arith))

-- it is no larger
pub gap_fits : (n i : ℕ) → n < 2 ^ 16 → i < 15 → gap n i < 2 ^ 16
gap_fits n i fits w =
    let whole = shr_split n i in
    let less : n / 2 ^ (i + 1) ≤ n / 2 ^ i = half_less n i in
    let times : n / 2 ^ (i + 1) * 2 ^ i ≤ n / 2 ^ i * 2 ^ i = mul-le (n / 2 ^ (i + 1)) (2 ^ i) (n / 2 ^ i) (2 ^ i) less (omega arith) in
    subst (λ m. m < 2 ^ 16) (sym (gap_is n i fits w)) (omega arith)

pub gap_below : (n i k : ℕ) → n < 2 ^ 16 → i < 15 → k < i → flag_at (gap n i) k ≡ flag_at n k
gap_below n i k fits w h =
    ap (λ m. flag_at m k) (gap_is n i fits w)
    ∙ ap (λ b. eqb b 1) (bit_at_cat_low (n / 2 ^ (i + 1)) i (n % 2 ^ i) k h ∙ low_bits n i k h)

pub gap_behind : (n i k : ℕ) → n < 2 ^ 16 → i < 15 → i ≤ k → flag_at (gap n i) k ≡ flag_at n (k + 1)
gap_behind n i k fits w h =
    let p = pow_pos i in
    ap (λ m. flag_at m k) (gap_is n i fits w)
    ∙ ap (λ b. eqb b 1) (bit_at_cat_high (n / 2 ^ (i + 1)) i (n % 2 ^ i) k (omega arith) h ∙ high_bits n i k h)

-- the bits below `count` alone, as the code computes them
abbrev pub first_bits : ℕ → ℕ → ℕ
first_bits n count = bit_and n (1 * 2 ^ count % 2 ^ 64 - 1)

first_is : (n count : ℕ) → count < 64 → first_bits n count ≡ bit_and n (2 ^ count - 1)
first_is n count w = ap (λ m. bit_and n (m - 1)) (one_shl count 64 w)

pub first_kept : (n count k : ℕ) → count < 64 → k < count → flag_at (first_bits n count) k ≡ flag_at n k
first_kept n count k w h =
    ap (λ m. flag_at m k) (first_is n count w)
    ∙ ap (λ b. eqb b 1) (let a = bit_at_and n (2 ^ count - 1) k in let b = bit_at_ones count k h in let c : bit_at n k < 2 = omega arith in omega arith)

pub first_only : (n count k : ℕ) → count < 64 → flag_at (first_bits n count) k ≡ true → k < count
first_only n count k w h =
    let set = bit_of (bit_and n (2 ^ count - 1)) k (sym (ap (λ m. flag_at m k) (first_is n count w)) ∙ h) in
    let a = bit_at_and n (2 ^ count - 1) k in
    elim (cases_lt k count) as (λ _. k < count) [
      | inl below ↦ below
      | inr above ↦ absurd (let b = bit_at_ones_above count k above in omega arith)
    ]

-- a bit of the mask of the tags that are this one
same_bit : (b : Bool) → eqb (cond b 1 0) 1 ≡ b
same_bit true = refl
same_bit false = refl

mapped_at : (p : ℕ → Bool) (xs : List ℕ) (k : ℕ) → k < length xs → get_or (map p xs) k false ≡ p (get_or xs k 0)
mapped_at p [] k w = absurd (omega arith)
mapped_at p (x ∷ xs) zero w = refl
mapped_at p (x ∷ xs) (suc k) w = mapped_at p xs k (omega arith)

pub tags_marked : (tags : List ℕ) (tag k : ℕ) → length tags ≡ 16 → k < 16
    → flag_at (mask_l (map (top 7) (zip2 (λ a b. cond (eqb a b) 255 0) tags (replicate 16 tag))) % 2 ^ 64) k ≡ eqb (get_or tags k 0) tag
tags_marked tags tag k long w =
    ap (λ m. flag_at m k) (bitmask_splat w8 eqb tags 16 tag long (omega arith))
    ∙ ap (λ b. eqb b 1) (bit_mask_l (map (λ x. eqb x tag) tags) k)
    ∙ same_bit (get_or (map (λ x. eqb x tag) tags) k false)
    ∙ mapped_at (λ x. eqb x tag) tags k (omega arith)
