use Rattle.std.proofs.Common.{◌≡◌, ℕ, suc, ◌-◌, ◌*◌, ◌%◌, ◌^◌, ◌<◌, eqb, sym, ap, subst, ◌∙◌, arith, w64, bit_and}
use Rattle.std.specs.Int.{bit_not, bit_at}
use Rattle.std.proofs.lemmas.Nat.Bits.{bit_at_clear_other, bit_at_and, and_pow}
use Rattle.std.proofs.lemmas.Nat.{and-not, and_comm}
use Rattle.std.proofs.Common.{pow_pos, pow_mono}
use Rattle.std.proofs.Math.Nat.{two-pow-succ}
use Rattle.df_segment.proofs.FlagLaws.{flag_of, bit_of}
use Rattle.df_segment.proofs.flags.without.Goals as goal

pub returns-clause-others : goal.returns-clause-others
returns-clause-others c = λ k l apart. ap (λ (b : ℕ). eqb b 1) (bit_at_clear_other w64 c.args.marks c.args.i c.requires.bound k l apart)

pub returns-clause-no_more : goal.returns-clause-no_more
returns-clause-no_more c = λ k h.
    let set = bit_of (bit_and c.args.marks (bit_not w64 (1 * 2 ^ c.args.i % 2 ^ 64))) k h in
    let both = bit_at_and c.args.marks (bit_not w64 (1 * 2 ^ c.args.i % 2 ^ 64)) k in
    flag_of c.args.marks k (let small : bit_at c.args.marks k < 2 = omega arith in omega arith)

pub returns-clause-fewer : goal.returns-clause-fewer
returns-clause-fewer c =
    let m = c.args.marks in
    let k = c.args.i in
    let small : 2 ^ k < 2 ^ 64 = omega (arith, two-pow-succ k, pow_pos k, pow_mono {i = suc k} {j = 64} (omega arith)) in
    let one : 1 * 2 ^ k % 2 ^ 64 ≡ 2 ^ k = omega arith in
    let parts = and-not 64 (2 ^ k) m small c.ranges.marks.fits in
    let there : bit_and (2 ^ k) m ≡ 1 * 2 ^ k = and_comm _ _ ∙ and_pow m k ∙ ap (λ x. x * 2 ^ k) (bit_of m k c.requires.marked) in
    subst (λ x. bit_and m (2 ^ 64 - 1 - x) < m) (sym one) (omega (arith, and_comm m (2 ^ 64 - 1 - 2 ^ k), pow_pos k))
