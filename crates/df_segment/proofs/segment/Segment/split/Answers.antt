use Rattle.std.proofs.Common.{◌-◌}
use Rattle.df_segment.proofs.SplitLaws.{stay_sound, go_sound}
use Rattle.df_segment.proofs.segment.Segment.split.Goals as goal

pub invariant_of-result : goal.invariant_of-result
invariant_of-result g c =
    rw c.part_all-halves.ensures.goes (go_sound (63 - c.self.inside.depth) c.self.inside.spilled c.self.inside.buckets.items c.self.invariant)

pub invariant_of-self : goal.invariant_of-self
invariant_of-self g c =
    rw c.part_all-halves.ensures.stays (stay_sound (63 - c.self.inside.depth) c.self.inside.spilled c.self.inside.buckets.items c.self.invariant)
