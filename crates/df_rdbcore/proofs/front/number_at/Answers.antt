use Rattle.std.proofs.Common.{◌≡◌, ℕ, ◌<◌, ◌∙◌, [], ◌∷◌, get_or, refl, arith, rules, FitsSigned}
use Rattle.std.specs.Int.{w8, w16, w32, from_le_bytes}
use Rattle.std.proofs.lemmas.Int.{to_z-of_z}
use Rattle.std.proofs.lemmas.Nat.{le_bytes_2, le_bytes_4}
use Rattle.df_rdbcore.proofs.SeenLaws.{one_seen, two_seen, four_seen, two_small, four_small}
use Rattle.df_rdbcore.proofs.front.number_at.Goals as goal

pub returns-then-bytes : goal.returns-then-bytes
returns-then-bytes c =
    let n : ℕ = get_or c.args.bytes.now 1 0 in
    let small : n < 256 = omega (arith, c.type_inv.bytes 1) in
    let inner : FitsSigned w8 c.from_le_bytes.result = search rules in
    let outer : FitsSigned w32 c.from.result = search rules in (
      c.if-bytes-lt2.false,
      one_seen c.args.bytes.now n _ c.if-bytes-lt2.false c.if-bytes.true small
          (to_z-of_z w32 c.from.result outer ∙ c.from.ensures ∙ to_z-of_z w8 c.from_le_bytes.result inner ∙ c.from_le_bytes.ensures) refl,
    )

pub returns-then-bytes-2 : goal.returns-then-bytes-2
returns-then-bytes-2 c =
    let a : ℕ = get_or c.args.bytes.now 1 0 in
    let b : ℕ = get_or c.args.bytes.now 2 0 in
    let p : a < 256 = omega (arith, c.type_inv.bytes 1) in
    let q : b < 256 = omega (arith, c.type_inv.bytes 2) in
    let n : ℕ = from_le_bytes w16 (a ∷ b ∷ []) in
    let fits : n < 65536 = omega arith in
    let inner : FitsSigned w16 c.from_le_bytes-then-bytes-2.result = search rules in
    let outer : FitsSigned w32 c.from-then-bytes-2.result = search rules in (
      c.if-bytes-lt3.false,
      two_seen c.args.bytes.now n _ c.if-bytes-lt3.false c.if-bytes-2.true fits
          (to_z-of_z w32 c.from-then-bytes-2.result outer ∙ c.from-then-bytes-2.ensures ∙ to_z-of_z w16 c.from_le_bytes-then-bytes-2.result inner ∙ c.from_le_bytes-then-bytes-2.ensures)
          (le_bytes_2 (a ∷ b ∷ []) n refl (two_small a b p q) refl),
    )

pub returns : goal.returns
returns c =
    let k : ℕ = get_or c.args.bytes.now 1 0 in
    let l : ℕ = get_or c.args.bytes.now 2 0 in
    let m : ℕ = get_or c.args.bytes.now 3 0 in
    let o : ℕ = get_or c.args.bytes.now 4 0 in
    let p : k < 256 = omega (arith, c.type_inv.bytes 1) in
    let q : l < 256 = omega (arith, c.type_inv.bytes 2) in
    let r : m < 256 = omega (arith, c.type_inv.bytes 3) in
    let s : o < 256 = omega (arith, c.type_inv.bytes 4) in
    let n : ℕ = from_le_bytes w32 (k ∷ l ∷ m ∷ o ∷ []) in
    let fits : n < 4294967296 = omega arith in
    let first : get_or c.args.bytes.now 0 0 ≡ 194 = omega arith in
    let outer : FitsSigned w32 c.from_le_bytes-number.result = search rules in (
      c.if-bytes-lt5.false,
      four_seen c.args.bytes.now n _ c.if-bytes-lt5.false first fits
          (to_z-of_z w32 c.from_le_bytes-number.result outer ∙ c.from_le_bytes-number.ensures)
          (le_bytes_4 (k ∷ l ∷ m ∷ o ∷ []) n refl (four_small k l m o p q r s) refl),
    )
