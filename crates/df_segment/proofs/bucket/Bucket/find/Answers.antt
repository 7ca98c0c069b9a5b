use Rattle.std.proofs.Common.{arith}
use Rattle.df_segment.proofs.BucketLaws.{nowhere_marked}
use Rattle.df_segment.proofs.bucket.Bucket.find.Goals as goal

pub returns-clause-none : goal.returns-clause-none
returns-clause-none g c =
    nowhere_marked c.matches.left c.args.key.now c.args.self.now.entries (omega arith) c.matches.invariant.all
