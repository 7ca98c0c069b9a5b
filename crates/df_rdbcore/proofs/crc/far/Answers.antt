use Rattle.std.proofs.Common.{◌<◌, ◌∙◌, ap, arith}
use Rattle.df_rdbcore.specs.Crc.{shifts}
use Rattle.df_rdbcore.proofs.EightLaws.{eight_are_one_step}
use Rattle.df_rdbcore.proofs.RowLaws.{eight_far_parts_are}
use Rattle.df_rdbcore.proofs.crc.far.Goals as goal

pub returns-clause-sum : goal.returns-clause-sum
returns-clause-sum c =
    let sum_fits : c.args.sum < 18446744073709551616 = omega arith in
    let number_fits : c.from_le_bytes.result < 18446744073709551616 = omega arith in
    rw (c.moved_far.ensures, c.moved_far-2.ensures, c.moved_far-3.ensures, c.moved_far-4.ensures, c.moved_far-5.ensures, c.moved_far-6.ensures, c.moved_far-7.ensures, c.moved_far-8.ensures)
    (eight_far_parts_are c.to_le_bytes.result
    ∙ ap (shifts 192) (eight_are_one_step c.args.sum c.from_le_bytes.result c.args.eight.now c.to_le_bytes.result sum_fits number_fits c.told-eight c.fits-eight c.from_le_bytes.ensures c.to_le_bytes.ensures))
