-- Eight bytes are one step: each byte of the number that they and the remainder make, moved past those above it.
use Rattle.std.proofs.Common.{◌≡◌, ℕ, zero, suc, ◌+◌, ◌*◌, ◌/◌, ◌%◌, ◌^◌, ◌<◌, Bool, true, false, cond, [], ◌∷◌, ◌++◌, length, get_or, take, drop, refl, sym, ap, ap₂, ◌∙◌, append_assoc, arith}
use Rattle.std.specs.Prelude.{bit_xor, ◌==◌}
use Rattle.std.specs.Int.{w64, byte_at, bytes_low_first, from_le_bytes, to_le_bytes}
use Rattle.std.specs.Int.Bits.{xor_assoc}
use Rattle.std.specs.List.{concat}
use Rattle.std.specs.Simd.{first_chunks}
use Rattle.std.proofs.lemmas.Nat.{xor_comm, xor_shr, xor_mod, xor_lt, mod_below, le_bytes_8, from_le_bytes-to_le_bytes_8}
use Rattle.std.proofs.lemmas.List.{take-append-drop, drop-drop}
use Rattle.df_model.specs.Values.{Bytes}
use Rattle.df_rdbcore.specs.Crc.{POLYNOMIAL, shifted, shifts, with_byte, crc_from}
use Rattle.df_rdbcore.proofs.CrcLaws.{xor_none, high_shifts, beside}
use Rattle.df_rdbcore.proofs.TableLaws.{shifts-add}

-- ---- remainders of two numbers that stand against each other

crossed : (a b c d : ℕ) → bit_xor (bit_xor a b) (bit_xor c d) ≡ bit_xor (bit_xor a c) (bit_xor b d)
crossed a b c d =
    xor_assoc a b (bit_xor c d)
    ∙ ap (bit_xor a) (sym (xor_assoc b c d) ∙ ap (λ x. bit_xor x d) (xor_comm b c) ∙ xor_assoc c b d)
    ∙ sym (xor_assoc a c (bit_xor b d))

-- what a lowest bit takes off
taken : ℕ → ℕ
taken q = cond (q == 0) 0 POLYNOMIAL

by_test : (t : Bool) (h : ℕ) → cond t h (bit_xor h POLYNOMIAL) ≡ bit_xor h (cond t 0 POLYNOMIAL)
by_test true h = sym (xor_none h)
by_test false h = refl

shifted_is : (r : ℕ) → shifted r ≡ bit_xor (r / 2) (taken (r % 2))
unfolding taken
shifted_is r = by_test (r % 2 == 0) (r / 2)

taken-xor : (p q : ℕ) → p < 2 → q < 2 → taken (bit_xor p q) ≡ bit_xor (taken p) (taken q)
unfolding taken
taken-xor zero q hp hq = refl
taken-xor (suc zero) zero hp hq = refl
taken-xor (suc zero) (suc zero) hp hq = refl
taken-xor (suc zero) (suc (suc q)) hp hq = absurd (omega arith)
taken-xor (suc (suc p)) q hp hq = absurd (omega arith)

shifted-xor : (a b : ℕ) → shifted (bit_xor a b) ≡ bit_xor (shifted a) (shifted b)
shifted-xor a b =
    shifted_is (bit_xor a b)
    ∙ ap₂ bit_xor (xor_shr a b 1) (ap taken (xor_mod a b 1) ∙ taken-xor (a % 2) (b % 2) (omega arith) (omega arith))
    ∙ crossed (a / 2) (b / 2) (taken (a % 2)) (taken (b % 2))
    ∙ ap₂ bit_xor (sym (shifted_is a)) (sym (shifted_is b))

pub shifts-xor : (n a b : ℕ) → shifts n (bit_xor a b) ≡ bit_xor (shifts n a) (shifts n b)
unfolding shifts
shifts-xor zero a b = refl
shifts-xor (suc n) a b = ap (shifts n) (shifted-xor a b) ∙ shifts-xor n (shifted a) (shifted b)

-- ---- bytes as a number

low_first : Bytes → ℕ
low_first [] = 0
low_first (b ∷ bs) = low_first bs * 2 ^ 8 + b

-- bytes stand against the remainder all at once
at_once : (bs : Bytes) (r : ℕ) → ((i : ℕ) → get_or bs i 0 < 256) → crc_from r bs ≡ shifts (8 * length bs) (bit_xor r (low_first bs))
unfolding shifts with_byte low_first
at_once [] r small = sym (xor_none r)
at_once (b ∷ bs) r small =
    let n = length bs in
    let l = low_first bs in
    let count : 8 * suc n ≡ 8 + 8 * n = omega arith in
    let above : bit_xor r (l * 2 ^ 8 + b) ≡ bit_xor (l * 2 ^ 8) (bit_xor r b) =
    ap (bit_xor r) (sym (beside l b (small 0)))
    ∙ sym (xor_assoc r (l * 2 ^ 8) b)
    ∙ ap (λ x. bit_xor x b) (xor_comm r (l * 2 ^ 8))
    ∙ xor_assoc (l * 2 ^ 8) r b in
    at_once bs (with_byte r b) (λ i. small (suc i))
    ∙ ap (shifts (8 * n)) (xor_comm (with_byte r b) l ∙ sym (high_shifts 8 l (bit_xor r b)) ∙ ap (shifts 8) (sym above))
    ∙ sym (shifts-add 8 (8 * n) (bit_xor r (l * 2 ^ 8 + b)))
    ∙ ap (λ k. shifts k (bit_xor r (l * 2 ^ 8 + b))) (sym count)

in_digits : (a b c d e f g h : ℕ) → low_first (a ∷ b ∷ c ∷ d ∷ e ∷ f ∷ g ∷ h ∷ []) ≡ from_le_bytes w64 (a ∷ b ∷ c ∷ d ∷ e ∷ f ∷ g ∷ h ∷ [])
unfolding low_first
in_digits a b c d e f g h = omega arith

low_first-to_le_bytes : (n : ℕ) → n < 2 ^ 64 → low_first (to_le_bytes w64 n) ≡ n
low_first-to_le_bytes n fits = in_digits _ _ _ _ _ _ _ _ ∙ from_le_bytes-to_le_bytes_8 n fits

byte_is_small : (i n : ℕ) → byte_at i n < 256
byte_is_small zero n = omega arith
byte_is_small (suc i) n = mod_below (n / 256 ^ suc i) 256 (omega arith)

bytes_are_small : (i k n j : ℕ) → get_or (bytes_low_first i k n) j 0 < 256
bytes_are_small i zero n j = omega arith
bytes_are_small i (suc k) n zero = byte_is_small i n
bytes_are_small i (suc k) n (suc j) = bytes_are_small (suc i) k n j

-- ---- a number byte by byte

-- the lowest byte apart from the others
lowest : (n h y : ℕ) → y < 256 → shifts (8 + n) (h * 2 ^ 8 + y) ≡ bit_xor (shifts (8 + n) y) (shifts n h)
lowest n h y small =
    ap (shifts (8 + n)) (sym (beside h y small))
    ∙ shifts-add 8 n (bit_xor (h * 2 ^ 8) y)
    ∙ ap (shifts n) (high_shifts 8 h y)
    ∙ shifts-xor n h (shifts 8 y)
    ∙ xor_comm (shifts n h) (shifts n (shifts 8 y))
    ∙ ap (λ z. bit_xor z (shifts n h)) (sym (shifts-add 8 n y))

-- each byte past those above it, beside what is there
parts : ℕ → Bytes → ℕ
parts so_far [] = so_far
parts so_far (b ∷ bs) = parts (bit_xor so_far (shifts (8 + 8 * length bs) b)) bs

parts_are : (bs : Bytes) (so_far : ℕ) → ((i : ℕ) → get_or bs i 0 < 256) → bit_xor so_far (shifts (8 * length bs) (low_first bs)) ≡ parts so_far bs
unfolding shifts low_first parts
parts_are [] so_far small = xor_none so_far
parts_are (b ∷ bs) so_far small =
    let n = 8 * length bs in
    let l = low_first bs in
    let count : 8 * suc (length bs) ≡ 8 + n = omega arith in
    ap (λ k. bit_xor so_far (shifts k (l * 2 ^ 8 + b))) count
    ∙ ap (bit_xor so_far) (lowest n l b (small 0))
    ∙ sym (xor_assoc so_far (shifts (8 + n) b) (shifts n l))
    ∙ parts_are bs (bit_xor so_far (shifts (8 + n) b)) (λ i. small (suc i))

-- the bytes of a number as the code puts them together
abbrev pub eight_parts : Bytes → ℕ
eight_parts bs =
    bit_xor (bit_xor (bit_xor (bit_xor (bit_xor (bit_xor (bit_xor
    (shifts 64 (get_or bs 0 0)) (shifts 56 (get_or bs 1 0))) (shifts 48 (get_or bs 2 0))) (shifts 40 (get_or bs 3 0)))
    (shifts 32 (get_or bs 4 0))) (shifts 24 (get_or bs 5 0))) (shifts 16 (get_or bs 6 0))) (shifts 8 (get_or bs 7 0))

eight_parts_are : (x : ℕ) → eight_parts (to_le_bytes w64 x) ≡ parts 0 (to_le_bytes w64 x)
unfolding parts
eight_parts_are x = refl

pub eight_are_one_step : (r n : ℕ) (bs ws : Bytes) → r < 2 ^ 64 → n < 2 ^ 64 → length bs ≡ 8 → ((i : ℕ) → get_or bs i 0 < 256) → n ≡ from_le_bytes w64 bs → ws ≡ to_le_bytes w64 (bit_xor r n) → eight_parts ws ≡ crc_from r bs
eight_are_one_step r n bs ws r_fits n_fits eight small number bytes =
    let x = bit_xor r n in
    let same : low_first bs ≡ n = ap low_first (sym (le_bytes_8 bs n eight small number)) ∙ low_first-to_le_bytes n n_fits in
    ap eight_parts bytes
    ∙ eight_parts_are x
    ∙ sym (parts_are (to_le_bytes w64 x) 0 (bytes_are_small 0 8 x))
    ∙ ap (shifts 64) (low_first-to_le_bytes x (xor_lt 64 r n r_fits n_fits) ∙ ap (bit_xor r) (sym same))
    ∙ ap (λ k. shifts (8 * k) (bit_xor r (low_first bs))) (sym eight)
    ∙ sym (at_once bs r small)

-- ---- eights and what is left

pub eights_and_rest : (k : ℕ) (xs : Bytes) → concat (first_chunks 8 k xs) ++ drop (k * 8) xs ≡ xs
eights_and_rest zero xs = refl
eights_and_rest (suc k) xs =
    let count : suc k * 8 ≡ 8 + k * 8 = omega arith in
    append_assoc (take 8 xs) _ _
    ∙ ap (λ j. take 8 xs ++ (concat (first_chunks 8 k (drop 8 xs)) ++ drop j xs)) count
    ∙ ap (λ ys. take 8 xs ++ (concat (first_chunks 8 k (drop 8 xs)) ++ ys)) (sym (drop-drop (k * 8) 8 xs))
    ∙ ap (λ ys. take 8 xs ++ ys) (eights_and_rest k (drop 8 xs))
    ∙ take-append-drop 8 xs
