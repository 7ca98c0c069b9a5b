use Rattle.df_dashtable.specs.Walks.{pair_of, slot_of_place, row_from}
use Rattle.df_dashtable.proofs.WalkLaws.{next_some}
use Rattle.df_dashtable.proofs.walk.walk_row.Goals as goal

pub returns-in-Some-clause-some : goal.returns-in-Some-clause-some
returns-in-Some-clause-some g c = λ d.
    let some = rw c.bucket.ensures at (c.in-Some.ensures.some d) in
    next_some c.args.segment.now c.buckets.b c.in-Some.slot (pair_of (slot_of_place c.args.segment.now (record { bucket = c.buckets.b; slot = c.in-Some.slot }) d))
    (row_from c.args.from c.args.segment.now) c.buckets.invariant some
