use Rattle.std.proofs.Common.{ℕ, eqb, sym, ap, ◌∙◌, w16}
use Rattle.std.proofs.lemmas.Nat.Bits.{bit_at_set_same, bit_at_set_other, bit_at_clear_same, bit_at_clear_other}
use Rattle.df_segment.proofs.flags.set_flag.Goals as goal

pub returns-then-on-clause-own : goal.returns-then-on-clause-own
returns-then-on-clause-own c = ap (λ (b : ℕ). eqb b 1) (bit_at_set_same w16 c.args.flags c.args.i c.requires) ∙ sym c.if-on.true

pub returns-then-on-clause-others : goal.returns-then-on-clause-others
returns-then-on-clause-others c = λ k w n. ap (λ (b : ℕ). eqb b 1) (bit_at_set_other w16 c.args.flags c.args.i c.requires k n)

pub returns-else-on-clause-own : goal.returns-else-on-clause-own
returns-else-on-clause-own c = ap (λ (b : ℕ). eqb b 1) (bit_at_clear_same w16 c.args.flags c.args.i c.requires) ∙ sym c.if-on.false

pub returns-else-on-clause-others : goal.returns-else-on-clause-others
returns-else-on-clause-others c = λ k w n. ap (λ (b : ℕ). eqb b 1) (bit_at_clear_other w16 c.args.flags c.args.i c.requires k w n)
