-- Places of hashes in a directory.
use Rattle.std.proofs.Common.{◌≡◌, ℕ, ◌+◌, ◌-◌, ◌*◌, ◌/◌, ◌%◌, ◌^◌, ◌<◌, ◌≤◌, [], ◌∷◌, ap, sym, ◌∙◌, arith}
use Rattle.std.specs.Prelude.{bit_xor}
use Rattle.std.proofs.Math.Nat.{div-lt_iff_lt-mul, div-div-eq-div-mul}
use Rattle.std.proofs.lemmas.Nat.{pow-add, pow_pos}
use Rattle.std.proofs.Math.Pow.{pow_mono}
use Rattle.df_model.specs.Values.{Bytes}
use Rattle.df_model.specs.Hash.{fnv64, fnv_from}
use Rattle.df_dashtable.specs.Tables.{directory_place}

from_fits : (h : ℕ) (key : Bytes) → h < 2 ^ 64 → fnv_from h key < 2 ^ 64
from_fits h [] w = w
from_fits h (b ∷ key) w = from_fits (bit_xor h b * 0x100000001b3 % 2 ^ 64) key (omega arith)

pub hash_fits : (key : Bytes) → fnv64 key < 2 ^ 64
hash_fits key = from_fits 0xcbf29ce484222325 key (omega arith)

-- a directory has a place for each hash
pub place_within : (hash depth : ℕ) → hash < 2 ^ 64 → depth ≤ 20 → directory_place hash depth < 2 ^ depth
place_within hash depth w d =
    let e : 2 ^ (depth + (64 - depth)) ≡ 2 ^ depth * 2 ^ (64 - depth) = pow-add 2 depth (64 - depth) in
    let f : depth + (64 - depth) ≡ 64 = omega arith in
    let g : 2 ^ 64 ≡ 2 ^ depth * 2 ^ (64 - depth) = ap (λ (n : ℕ). 2 ^ n) (sym f) ∙ e in
    (div-lt_iff_lt-mul {k = 2 ^ (64 - depth)} {x = hash} {y = 2 ^ depth} (pow_pos (64 - depth))).1 (omega arith)

-- a further bit of a place is the next bit of the hash
pub further_bits : (hash depth shift bit : ℕ) → depth ≤ 20 → shift + (64 - depth) ≡ bit → directory_place hash depth / 2 ^ shift ≡ hash / 2 ^ bit
further_bits hash depth shift bit d is =
    div-div-eq-div-mul hash (2 ^ (64 - depth)) (2 ^ shift)
    ∙ ap (λ n. hash / n) (sym (pow-add 2 (64 - depth) shift) ∙ ap (λ n. 2 ^ n) (let e : (64 - depth) + shift ≡ bit = omega arith in e))

-- in a directory that was doubled a place is one of two for what was one
pub half_place : (hash depth : ℕ) → depth < 20 → directory_place hash (depth + 1) / 2 ≡ directory_place hash depth
half_place hash depth d =
    div-div-eq-div-mul hash (2 ^ (64 - (depth + 1))) 2
    ∙ ap (λ n. hash / n) (sym (pow-add 2 (64 - (depth + 1)) 1) ∙ ap (λ n. 2 ^ n) (let e : (64 - (depth + 1)) + 1 ≡ 64 - depth = omega arith in e))

-- below the greatest depth
pub pow_bound : (depth : ℕ) → depth < 20 → 2 ^ depth ≤ 1048576
pow_bound depth w = pow_mono (let h : depth ≤ 20 = omega arith in h)
