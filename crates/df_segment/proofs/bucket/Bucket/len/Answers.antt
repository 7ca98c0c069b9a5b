use Rattle.std.proofs.Common.{length, ap, arith}
use Rattle.df_segment.specs.Entries.{flag_at}
use Rattle.df_segment.specs.Buckets.{Bucket}
use Rattle.df_segment.proofs.SlotLaws.{slots_length}
use Rattle.df_segment.proofs.bucket.Bucket.len.Goals as goal

pub returns : goal.returns
returns g c =
    let l = slots_length (flag_at c.self.inside.staged) c.self.inside.entries.items in
    let v = ap (λ (b : Bucket g.row.V.Denot). length b.entries) c.self.view_is in
    let few = c.self.invariant.few in
    omega arith
