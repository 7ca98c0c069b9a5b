use Rattle.df_dashtable.specs.Tables.{cleared, no_segment}
use Rattle.df_dashtable.proofs.ClearLaws.{Done}
use Rattle.df_dashtable.proofs.clear.clear_all.Given as goal

abbrev pub invariant-segments : goal.invariant-segments
invariant-segments g l = Done cleared no_segment l.fn.segments.items l.segments.items l.s
