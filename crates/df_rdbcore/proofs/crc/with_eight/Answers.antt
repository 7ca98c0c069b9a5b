use Rattle.std.proofs.Common.{◌<◌, arith}
use Rattle.df_rdbcore.proofs.EightLaws.{eight_are_one_step}
use Rattle.df_rdbcore.proofs.crc.with_eight.Goals as goal

pub returns-clause-sum : goal.returns-clause-sum
returns-clause-sum c =
    let sum_fits : c.args.sum < 18446744073709551616 = omega arith in
    let number_fits : c.from_le_bytes.result < 18446744073709551616 = omega arith in
    rw (c.moved.ensures, c.moved-2.ensures, c.moved-3.ensures, c.moved-4.ensures, c.moved-5.ensures, c.moved-6.ensures, c.moved-7.ensures, c.moved-8.ensures)
    (eight_are_one_step c.args.sum c.from_le_bytes.result c.args.eight.now c.to_le_bytes.result sum_fits number_fits c.told-eight c.fits-eight c.from_le_bytes.ensures c.to_le_bytes.ensures)
