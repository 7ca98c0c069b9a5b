use Rattle.std.proofs.Common.{refl, arith}
use Rattle.df_segment.specs.Buckets.{staged_only, no_bucket}
use Rattle.df_dashtable.specs.Tables.{cleared}
use Rattle.df_dashtable.proofs.ClearLaws.{same_segment, done_all}
use Rattle.df_dashtable.proofs.clear.clear_buckets.Goals as goal

pub returns : goal.returns
returns g c =
    same_segment c.buckets.segment (cleared c.args.segment.now) c.buckets.invariant.depth
    (done_all staged_only no_bucket c.args.segment.now.buckets c.buckets.segment.buckets c.buckets.b refl c.buckets.invariant.done
    (let e = c.buckets-count.ensures.value in let f = c.buckets-test.false in omega arith))
