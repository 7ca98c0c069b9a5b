use Rattle.std.proofs.Common.{◌+◌, true, false, drop, ap}
use Rattle.df_model.specs.Meaning.{firsts}
use Rattle.df_colls.proofs.CountLaws.{next_of}
use Rattle.df_hashes.proofs.MetLaws.{compared}
use Rattle.df_hashes.proofs.count.is_field.Goals as goal

pub returns-then-eq : goal.returns-then-eq
returns-then-eq c =
    let i = c.pairs.pair-index in
    compared c.args.field.now c.pair-item.result.0 true (firsts (drop (i + 1) c.args.pairs.now)) _ _ c.if-eq.ensures (ap firsts (next_of i c.args.pairs.now c.pair-item.result c.pairs-test.true c.pair-item.is)) c.pairs.invariant

pub pairs-preserved : goal.pairs-preserved
pairs-preserved c =
    let i = c.pairs.pair-index in
    compared c.args.field.now c.pair-item.result.0 false (firsts (drop (i + 1) c.args.pairs.now)) _ _ c.if-eq.ensures (ap firsts (next_of i c.args.pairs.now c.pair-item.result c.pairs-test.true c.pair-item.is)) c.pairs.invariant
