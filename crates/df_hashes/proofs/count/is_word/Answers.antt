use Rattle.std.proofs.Common.{◌+◌, true, false, drop}
use Rattle.df_colls.proofs.CountLaws.{next_of}
use Rattle.df_hashes.proofs.MetLaws.{compared}
use Rattle.df_hashes.proofs.count.is_word.Goals as goal

pub returns-then-eq : goal.returns-then-eq
returns-then-eq c =
    let i = c.words.other-index in
    compared c.args.word.now c.other-item.result true (drop (i + 1) c.args.words.now) _ _ c.if-eq.ensures (next_of i c.args.words.now c.other-item.result c.words-test.true c.other-item.is) c.words.invariant

pub words-preserved : goal.words-preserved
words-preserved c =
    let i = c.words.other-index in
    compared c.args.word.now c.other-item.result false (drop (i + 1) c.args.words.now) _ _ c.if-eq.ensures (next_of i c.args.words.now c.other-item.result c.words-test.true c.other-item.is) c.words.invariant
