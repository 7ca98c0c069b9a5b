use Rattle.std.proofs.Common.{arith, vec_capacity}
use Rattle.df_segment.specs.Entries.{flag_at}
use Rattle.df_segment.proofs.PartLaws.{parting_is}
use Rattle.df_segment.proofs.bucket.Bucket.parting.Goals as goal

pub returns-clause-fits : goal.returns-clause-fits
returns-clause-fits g c =
    rw (← c.self.view_is)
    (parting_is c.args.bit c.self.inside.entries.items (flag_at c.self.inside.staged) c.as_slice.result.now c.going_of-count.result.0 c.going_of-count.result.1 (vec_capacity c.in_ok-room.room)
    c.as_slice.ensures.value c.going_of-count.ensures.marks c.going_of-count.ensures.count (let e = c.in_ok-room.ensures.exact in omega arith))
