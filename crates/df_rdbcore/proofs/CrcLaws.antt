-- A byte is one step by the tables: the remainder of the lowest eight bits, beside the others moved down.
use Rattle.std.proofs.Common.{◌≡◌, ℕ, zero, suc, ◌+◌, ◌*◌, ◌/◌, ◌%◌, ◌^◌, ◌<◌, Bool, true, false, cond, [], ◌∷◌, ◌++◌, refl, sym, ap, ◌∙◌, arith}
use Rattle.std.specs.Prelude.{bit_xor, ◌==◌, codes}
use Rattle.std.specs.Int.Bits.{xor_assoc}
use Rattle.std.proofs.Math.Nat.{pow-suc, mul_assoc}
use Rattle.std.proofs.lemmas.Nat.{xor_comm, xor_shr, xor_mod, xor_block, shr_split}
use Rattle.df_model.specs.Values.{Bytes}
use Rattle.df_rdbcore.specs.Crc.{POLYNOMIAL, shifted, shifts, with_byte, crc_from, crc}

-- the check value of the catalogues of sums
known_sum : crc (codes "123456789") ≡ 0xe9c6_d914_c4b8_d9ca
unfolding shifts with_byte
known_sum = refl

pub xor_none : (a : ℕ) → bit_xor a 0 ≡ a
xor_none a = xor_comm a 0

by_test : (t : Bool) (h a p : ℕ) → cond t (bit_xor h a) (bit_xor (bit_xor h a) p) ≡ bit_xor h (cond t a (bit_xor a p))
by_test true h a p = refl
by_test false h a p = xor_assoc h a p

-- bits above the lowest move down and do nothing else
high_shifted : (h y : ℕ) → shifted (bit_xor (h * 2) y) ≡ bit_xor h (shifted y)
high_shifted h y =
    let half : bit_xor (h * 2) y / 2 ≡ bit_xor h (y / 2) = let e : h * 2 / 2 ≡ h = omega arith in xor_shr (h * 2) y 1 ∙ ap (λ x. bit_xor x (y / 2)) e in
    let low : bit_xor (h * 2) y % 2 ≡ y % 2 = let e : h * 2 % 2 ≡ 0 = omega arith in xor_mod (h * 2) y 1 ∙ ap (λ x. bit_xor x (y % 2)) e in
    ap (λ q. cond (q == 0) (bit_xor (h * 2) y / 2) (bit_xor (bit_xor (h * 2) y / 2) POLYNOMIAL)) low
    ∙ ap (λ q. cond (y % 2 == 0) q (bit_xor q POLYNOMIAL)) half
    ∙ by_test (y % 2 == 0) h (y / 2) POLYNOMIAL

pub high_shifts : (k h y : ℕ) → shifts k (bit_xor (h * 2 ^ k) y) ≡ bit_xor h (shifts k y)
unfolding shifts
high_shifts zero h y = let e : h * 2 ^ 0 ≡ h = omega arith in ap (λ x. bit_xor x y) e
high_shifts (suc k) h y =
    let twice : h * 2 ^ suc k ≡ h * 2 ^ k * 2 = ap (λ x. h * x) (pow-suc 2 k) ∙ sym (mul_assoc h (2 ^ k) 2) in
    ap (λ x. shifts k (shifted (bit_xor x y))) twice ∙ ap (shifts k) (high_shifted (h * 2 ^ k) y) ∙ high_shifts k h (shifted y)

pub beside : (h y : ℕ) → y < 2 ^ 8 → bit_xor (h * 2 ^ 8) y ≡ h * 2 ^ 8 + y
beside h y small =
    let none : h * 2 ^ 8 + 0 ≡ h * 2 ^ 8 = omega arith in
    let left : 0 * 2 ^ 8 + y ≡ y = omega arith in
    let zero_small : 0 < 2 ^ 8 = omega arith in
    ap (λ x. bit_xor x y) (sym none) ∙ ap (bit_xor (h * 2 ^ 8 + 0)) (sym left) ∙ xor_block 8 h 0 0 y zero_small small ∙ ap (λ x. x * 2 ^ 8 + y) (xor_none h)

-- a byte against the lowest eight bits
apart : (r b : ℕ) → b < 256 → bit_xor r b ≡ bit_xor (r / 2 ^ 8 * 2 ^ 8) (bit_xor (r % 2 ^ 8) b)
apart r b h =
    let low : r % 2 ^ 8 < 2 ^ 8 = omega arith in
    ap (λ x. bit_xor x b) (sym (shr_split r 8))
    ∙ ap (λ x. bit_xor x b) (sym (let e : bit_xor (r / 2 ^ 8 * 2 ^ 8) (r % 2 ^ 8) ≡ r / 2 ^ 8 * 2 ^ 8 + r % 2 ^ 8 = beside (r / 2 ^ 8) (r % 2 ^ 8) low in e))
    ∙ xor_assoc (r / 2 ^ 8 * 2 ^ 8) (r % 2 ^ 8) b

pub a_byte_is_one_step : (r b : ℕ) → b < 256 → bit_xor (shifts 8 (bit_xor (r % 2 ^ 8) b)) (r / 2 ^ 8) ≡ with_byte r b
unfolding with_byte
a_byte_is_one_step r b h =
    xor_comm (shifts 8 (bit_xor (r % 2 ^ 8) b)) (r / 2 ^ 8)
    ∙ sym (high_shifts 8 (r / 2 ^ 8) (bit_xor (r % 2 ^ 8) b))
    ∙ ap (shifts 8) (sym (apart r b h))

pub crc_append : (r : ℕ) (bs cs : Bytes) → crc_from r (bs ++ cs) ≡ crc_from (crc_from r bs) cs
crc_append r [] cs = refl
crc_append r (b ∷ bs) cs = crc_append (with_byte r b) bs cs
