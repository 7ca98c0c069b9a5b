use Rattle.std.proofs.Common.{◌/◌, ◌^◌, ◌∙◌, ap, arith}
use Rattle.std.specs.Prelude.{bit_xor}
use Rattle.std.proofs.lemmas.Nat.{and_mask}
use Rattle.df_rdbcore.specs.Crc.{shifts}
use Rattle.df_rdbcore.proofs.CrcLaws.{a_byte_is_one_step}
use Rattle.df_rdbcore.proofs.crc.step.Goals as goal

pub returns : goal.returns
returns c =
    ap (λ x. bit_xor x (c.args.sum / 2 ^ 8)) c.moved.ensures
    ∙ ap (λ m. bit_xor (shifts 8 (bit_xor m c.args.byte)) (c.args.sum / 2 ^ 8)) (and_mask c.args.sum 8)
    ∙ a_byte_is_one_step c.args.sum c.args.byte (omega arith)
