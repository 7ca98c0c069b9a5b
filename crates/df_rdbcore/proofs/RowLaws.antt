-- Rows of four words: each word goes its own way past the three beside it, and the last row brings them together.
use Rattle.std.proofs.Common.{◌≡◌, ℕ, zero, suc, ◌+◌, ◌*◌, ◌-◌, ◌^◌, ◌≤◌, List, [], ◌∷◌, ◌++◌, length, get_or, take, drop, refl, sym, ap, ap₂, ◌∙◌, append_assoc, append-nil, length-append, arith}
use Rattle.std.specs.Prelude.{bit_xor}
use Rattle.std.specs.Int.Bits.{xor_assoc}
use Rattle.std.specs.List.{concat, flat_map}
use Rattle.std.specs.Simd.{first_chunks}
use Rattle.std.proofs.lemmas.Nat.{xor_comm}
use Rattle.std.proofs.lemmas.List.{take-append-drop, drop-drop}
use Rattle.df_model.specs.Values.{Bytes}
use Rattle.df_rdbcore.specs.Crc.{shifts, with_byte, crc_from, widened}
use Rattle.df_rdbcore.proofs.CrcLaws.{xor_none, high_shifts, crc_append}
use Rattle.df_rdbcore.proofs.TableLaws.{shifts-add}
use Rattle.df_rdbcore.proofs.EightLaws.{shifts-xor, eight_parts}

-- ---- a remainder apart from what is added behind it

no_bits : (n : ℕ) → shifts n 0 ≡ 0
unfolding shifts
no_bits zero = refl
no_bits (suc n) = no_bits n

crc_xor : (u v : ℕ) (bs : Bytes) → crc_from (bit_xor u v) bs ≡ bit_xor (shifts (8 * length bs) u) (crc_from v bs)
unfolding shifts with_byte
crc_xor u v [] = refl
crc_xor u v (b ∷ bs) =
    let n = 8 * length bs in
    let count : 8 * suc (length bs) ≡ 8 + n = omega arith in
    ap (λ w. crc_from w bs) (ap (shifts 8) (xor_assoc u v b) ∙ shifts-xor 8 u (bit_xor v b))
    ∙ crc_xor (shifts 8 u) (with_byte v b) bs
    ∙ ap (λ w. bit_xor w (crc_from (with_byte v b) bs)) (sym (shifts-add 8 n u) ∙ ap (λ k. shifts k u) (sym count))

crc_xor_eight : (u v : ℕ) (e : Bytes) → length e ≡ 8 → crc_from (bit_xor u v) e ≡ bit_xor (shifts 64 u) (crc_from v e)
crc_xor_eight u v e eight = crc_xor u v e ∙ ap (λ k. bit_xor (shifts (8 * k) u) (crc_from v e)) eight

-- a remainder past 32 bytes, and the others of those that stand behind it
past_row : (more w : ℕ) (rest : Bytes) → 8 * length rest ≡ 256 + more → crc_from w rest ≡ bit_xor (shifts more (shifts 256 w)) (crc_from 0 rest)
past_row more w rest long =
    ap (λ x. crc_from x rest) (sym (xor_none w))
    ∙ crc_xor w 0 rest
    ∙ ap (λ k. bit_xor (shifts k w) (crc_from 0 rest)) long
    ∙ ap (λ x. bit_xor x (crc_from 0 rest)) (shifts-add 256 more w)

-- remainders that are the same 32 bytes further on
same_far : (u v : ℕ) (rest : Bytes) → 32 ≤ length rest → shifts 256 u ≡ shifts 256 v → crc_from u rest ≡ crc_from v rest
same_far u v rest long same =
    let more = 8 * length rest - 256 in
    let count : 8 * length rest ≡ 256 + more = omega (arith, long) in
    past_row more u rest count ∙ ap (λ w. bit_xor (shifts more w) (crc_from 0 rest)) same ∙ sym (past_row more v rest count)

-- ---- lanes side by side

only_high : (h : ℕ) → shifts 64 (h * 2 ^ 64) ≡ h
only_high h = ap (shifts 64) (sym (xor_none (h * 2 ^ 64))) ∙ high_shifts 64 h 0 ∙ ap (bit_xor h) (no_bits 64) ∙ xor_none h

lane_on : (a more : ℕ) (p rest : Bytes) → length p ≡ 8 → crc_from (widened a more) (p ++ rest) ≡ crc_from (bit_xor more (crc_from a p)) rest
lane_on a more p rest eight =
    crc_append (widened a more) p rest
    ∙ ap (λ w. crc_from w rest) (crc_xor_eight (more * 2 ^ 64) a p eight ∙ ap (λ h. bit_xor h (crc_from a p)) (only_high more))

lane_over : (a b more : ℕ) (p rest : Bytes) → length p ≡ 8 → crc_from (widened a (widened b more)) (p ++ rest) ≡ crc_from (widened (bit_xor (crc_from a p) b) more) rest
lane_over a b more p rest eight =
    lane_on a (widened b more) p rest eight
    ∙ ap (λ w. crc_from w rest) (xor_assoc (more * 2 ^ 64) b (crc_from a p) ∙ ap (bit_xor (more * 2 ^ 64)) (xor_comm b (crc_from a p)))

abbrev pub lanes : ℕ → ℕ → ℕ → ℕ → ℕ
lanes a b c d = widened a (widened b (widened c d))

four_words : (row : List Bytes) → length row ≡ 4 → row ≡ get_or row 0 [] ∷ get_or row 1 [] ∷ get_or row 2 [] ∷ get_or row 3 [] ∷ []
four_words [] four = absurd (omega (arith, four))
four_words (p ∷ []) four = absurd (omega (arith, four))
four_words (p ∷ q ∷ []) four = absurd (omega (arith, four))
four_words (p ∷ q ∷ r ∷ []) four = absurd (omega (arith, four))
four_words (p ∷ q ∷ r ∷ s ∷ []) four = refl
four_words (p ∷ q ∷ r ∷ s ∷ t ∷ more) four = absurd (omega (arith, four))

-- each word of a row against its lane and what the word before it left
pub joined_is : (a b c d ab bc cd out : ℕ) (row : List Bytes) →
    length row ≡ 4 → length (get_or row 0 []) ≡ 8 → length (get_or row 1 []) ≡ 8 → length (get_or row 2 []) ≡ 8 →
    ab ≡ crc_from a (get_or row 0 []) → bc ≡ crc_from (bit_xor ab b) (get_or row 1 []) → cd ≡ crc_from (bit_xor bc c) (get_or row 2 []) → out ≡ crc_from (bit_xor cd d) (get_or row 3 []) →
    out ≡ crc_from (lanes a b c d) (concat row)
joined_is a b c d ab bc cd out row four first second third ea eb ec ed =
    let p = get_or row 0 [] in
    let q = get_or row 1 [] in
    let r = get_or row 2 [] in
    let s = get_or row 3 [] in
    let whole : crc_from (lanes a b c d) (p ++ (q ++ (r ++ (s ++ [])))) ≡ out =
    lane_over a b (widened c d) p (q ++ (r ++ (s ++ []))) first
    ∙ ap (λ w. crc_from (widened (bit_xor w b) (widened c d)) (q ++ (r ++ (s ++ [])))) (sym ea)
    ∙ lane_over (bit_xor ab b) c d q (r ++ (s ++ [])) second
    ∙ ap (λ w. crc_from (widened (bit_xor w c) d) (r ++ (s ++ []))) (sym eb)
    ∙ lane_on (bit_xor bc c) d r (s ++ []) third
    ∙ ap (λ w. crc_from (bit_xor d w) (s ++ [])) (sym ec)
    ∙ ap₂ crc_from (xor_comm d cd) (append-nil s)
    ∙ sym ed in
    sym whole ∙ ap (λ ws. crc_from (lanes a b c d) (concat ws)) (sym (four_words row four))

-- ---- past the three words beside it

four_steps : (r : ℕ) → shifts 256 r ≡ shifts 64 (shifts 64 (shifts 64 (shifts 64 r)))
four_steps r = shifts-add 64 192 r ∙ shifts-add 64 128 (shifts 64 r) ∙ shifts-add 64 64 (shifts 64 (shifts 64 r))

past_next : (r : ℕ) → shifts 64 (shifts 192 r) ≡ shifts 192 (shifts 64 r)
past_next r = sym (shifts-add 192 64 r) ∙ shifts-add 64 192 r

-- a lane that comes to where the next one stands
lane_meets : (x y more : ℕ) → shifts 64 (widened (shifts 192 x) (widened (shifts 192 y) more)) ≡ widened (shifts 192 (bit_xor (shifts 64 x) y)) more
lane_meets x y more =
    high_shifts 64 (widened (shifts 192 y) more) (shifts 192 x)
    ∙ xor_assoc (more * 2 ^ 64) (shifts 192 y) (shifts 64 (shifts 192 x))
    ∙ ap (bit_xor (more * 2 ^ 64)) (xor_comm (shifts 192 y) (shifts 64 (shifts 192 x)) ∙ ap (λ w. bit_xor w (shifts 192 y)) (past_next x) ∙ sym (shifts-xor 192 (shifts 64 x) y))

last_meets : (x y : ℕ) → shifts 64 (widened (shifts 192 x) (shifts 192 y)) ≡ shifts 192 (bit_xor (shifts 64 x) y)
last_meets x y =
    high_shifts 64 (shifts 192 y) (shifts 192 x)
    ∙ xor_comm (shifts 192 y) (shifts 64 (shifts 192 x))
    ∙ ap (λ w. bit_xor w (shifts 192 y)) (past_next x)
    ∙ sym (shifts-xor 192 (shifts 64 x) y)

all_meet : (x y z t : ℕ) → shifts 256 (lanes (shifts 192 x) (shifts 192 y) (shifts 192 z) (shifts 192 t)) ≡ shifts 256 (bit_xor (shifts 64 (bit_xor (shifts 64 (bit_xor (shifts 64 x) y)) z)) t)
all_meet x y z t =
    let xy = bit_xor (shifts 64 x) y in
    let xyz = bit_xor (shifts 64 xy) z in
    let all = bit_xor (shifts 64 xyz) t in
    four_steps (lanes (shifts 192 x) (shifts 192 y) (shifts 192 z) (shifts 192 t))
    ∙ ap (λ w. shifts 64 (shifts 64 (shifts 64 w))) (lane_meets x y (widened (shifts 192 z) (shifts 192 t)))
    ∙ ap (λ w. shifts 64 (shifts 64 w)) (lane_meets xy z (shifts 192 t))
    ∙ ap (shifts 64) (last_meets xyz t)
    ∙ sym (shifts-add 192 64 all)

-- a row in which no word waits for another leaves the same, once as much stands behind it
pub passed_is : (a b c d : ℕ) (row : List Bytes) (rest : Bytes) →
    length row ≡ 4 → length (get_or row 0 []) ≡ 8 → length (get_or row 1 []) ≡ 8 → length (get_or row 2 []) ≡ 8 → length (get_or row 3 []) ≡ 8 → 32 ≤ length rest →
    crc_from (lanes (shifts 192 (crc_from a (get_or row 0 []))) (shifts 192 (crc_from b (get_or row 1 []))) (shifts 192 (crc_from c (get_or row 2 []))) (shifts 192 (crc_from d (get_or row 3 [])))) rest ≡ crc_from (lanes a b c d) (concat row ++ rest)
passed_is a b c d row rest four first second third fourth long =
    let p = get_or row 0 [] in
    let q = get_or row 1 [] in
    let r = get_or row 2 [] in
    let s = get_or row 3 [] in
    let x = crc_from a p in
    let y = crc_from b q in
    let z = crc_from c r in
    let t = crc_from d s in
    let xy = bit_xor (shifts 64 x) y in
    let xyz = bit_xor (shifts 64 xy) z in
    let all = bit_xor (shifts 64 xyz) t in
    let whole : all ≡ crc_from (lanes a b c d) (concat row) =
    joined_is a b c d x xy xyz all row four first second third refl (sym (crc_xor_eight x b q second)) (sym (crc_xor_eight xy c r third)) (sym (crc_xor_eight xyz d s fourth)) in
    same_far (lanes (shifts 192 x) (shifts 192 y) (shifts 192 z) (shifts 192 t)) all rest long (all_meet x y z t)
    ∙ ap (λ w. crc_from w rest) whole
    ∙ sym (crc_append (lanes a b c d) (concat row) rest)

pub row_is_long : (row : List Bytes) → length row ≡ 4 → length (get_or row 0 []) ≡ 8 → length (get_or row 1 []) ≡ 8 → length (get_or row 2 []) ≡ 8 → length (get_or row 3 []) ≡ 8 → 32 ≤ length (concat row)
row_is_long [] four = absurd (omega (arith, four))
row_is_long (p ∷ []) four = absurd (omega (arith, four))
row_is_long (p ∷ q ∷ []) four = absurd (omega (arith, four))
row_is_long (p ∷ q ∷ r ∷ []) four = absurd (omega (arith, four))
row_is_long (p ∷ q ∷ r ∷ s ∷ more) four = λ first second third fourth. omega (arith, first, second, third, fourth, length-append p (q ++ (r ++ (s ++ concat more))), length-append q (r ++ (s ++ concat more)), length-append r (s ++ concat more), length-append s (concat more))

pub lanes_begin : (sum : ℕ) → lanes sum 0 0 0 ≡ sum
lanes_begin sum = refl

-- ---- a word's bytes past what stands beside it

two_far : (u v x y : ℕ) → u ≡ shifts 192 x → v ≡ shifts 192 y → bit_xor u v ≡ shifts 192 (bit_xor x y)
two_far u v x y e f = ap₂ bit_xor e f ∙ sym (shifts-xor 192 x y)

-- the bytes of a number as the code puts them together
abbrev pub eight_far_parts : Bytes → ℕ
eight_far_parts bs =
    bit_xor (bit_xor (bit_xor (bit_xor (bit_xor (bit_xor (bit_xor
    (shifts 256 (get_or bs 0 0)) (shifts 248 (get_or bs 1 0))) (shifts 240 (get_or bs 2 0))) (shifts 232 (get_or bs 3 0)))
    (shifts 224 (get_or bs 4 0))) (shifts 216 (get_or bs 5 0))) (shifts 208 (get_or bs 6 0))) (shifts 200 (get_or bs 7 0))

pub eight_far_parts_are : (bs : Bytes) → eight_far_parts bs ≡ shifts 192 (eight_parts bs)
eight_far_parts_are bs =
    two_far _ _ _ _ (two_far _ _ _ _ (two_far _ _ _ _ (two_far _ _ _ _ (two_far _ _ _ _ (two_far _ _ _ _ (two_far _ _ _ _
    (shifts-add 64 192 (get_or bs 0 0)) (shifts-add 56 192 (get_or bs 1 0))) (shifts-add 48 192 (get_or bs 2 0))) (shifts-add 40 192 (get_or bs 3 0)))
    (shifts-add 32 192 (get_or bs 4 0))) (shifts-add 24 192 (get_or bs 5 0))) (shifts-add 16 192 (get_or bs 6 0))) (shifts-add 8 192 (get_or bs 7 0))

-- ---- rows and what is left

concat_on : (xs ys : List Bytes) → concat xs ++ concat ys ≡ concat (xs ++ ys)
concat_on [] ys = refl
concat_on (x ∷ xs) ys = append_assoc x (concat xs) (concat ys) ∙ ap (λ z. x ++ z) (concat_on xs ys)

pub rows_and_left : (k : ℕ) (words : List Bytes) → flat_map concat (first_chunks 4 k words) ++ concat (drop (k * 4) words) ≡ concat words
rows_and_left zero words = refl
rows_and_left (suc k) words =
    let count : suc k * 4 ≡ 4 + k * 4 = omega arith in
    let rows = flat_map concat (first_chunks 4 k (drop 4 words)) in
    append_assoc (concat (take 4 words)) rows _
    ∙ ap (λ j. concat (take 4 words) ++ (rows ++ concat (drop j words))) count
    ∙ ap (λ ws. concat (take 4 words) ++ (rows ++ concat ws)) (sym (drop-drop (k * 4) 4 words))
    ∙ ap (λ z. concat (take 4 words) ++ z) (rows_and_left k (drop 4 words))
    ∙ concat_on (take 4 words) (drop 4 words)
    ∙ ap concat (take-append-drop 4 words)
