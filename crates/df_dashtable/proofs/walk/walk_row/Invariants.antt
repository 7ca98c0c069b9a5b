use Rattle.std.proofs.Common.{◌≡◌}
use Rattle.df_dashtable.specs.Walks.{row_from}
use Rattle.df_dashtable.proofs.walk.walk_row.Given as goal

abbrev pub invariant-buckets : goal.invariant-buckets
invariant-buckets g l = row_from l.fn.from l.segment ≡ row_from l.b l.segment
