use Rattle.std.proofs.Common.{◌≡◌}
use Rattle.df_dashtable.specs.Walks.{segments_from}
use Rattle.df_dashtable.proofs.walk.walk_segments.Given as goal

abbrev pub invariant-segments : goal.invariant-segments
invariant-segments g l = segments_from l.fn.from l.segments ≡ segments_from l.s l.segments
