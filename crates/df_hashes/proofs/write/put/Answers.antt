use Rattle.std.proofs.Common.{arith}
use Rattle.df_hashes.proofs.ChangeLaws.{put_makes}
use Rattle.df_hashes.proofs.write.put.Goals as goal

pub returns-then-alters-clause-ok : goal.returns-then-alters-clause-ok
returns-then-alters-clause-ok c =
    put_makes c.args.pairs c.reserve.new.self c.args.hash.now.fields c.reserve.ensures.fields (omega (arith, c.in_ok-reserve.ensures.ok, c.len.ensures)) (c.requires.yes c.if-alters.true)
