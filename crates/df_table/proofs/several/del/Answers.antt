use Rattle.std.proofs.Common.{◌≤◌, arith}
use Rattle.std.specs.FinMap as fin
use Rattle.df_table.proofs.SeveralLaws.{fewer}
use Rattle.df_table.proofs.several.del.Goals as goal

pub overflow_sub-before : goal.overflow_sub-before
overflow_sub-before c =
    let less : fin.len c.words.table.keys ≤ fin.len c.args.table.now.keys =
    fewer c.words.word-index c.args.words.now c.args.table.now.keys c.words.table.keys (omega arith) c.words.invariant.left in
    omega (arith, less, c.len.ensures, c.len-before.ensures)
