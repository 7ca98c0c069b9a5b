use Rattle.std.proofs.Common.{◌<◌, length}
use Rattle.df_colls.specs.Cuts.{chunk_at}
use Rattle.df_colls.specs.Parts.{item_lists}
use Rattle.df_colls.proofs.SumLaws.{Starts}
use Rattle.df_colls.proofs.sums.Sums.find.Given as goal

abbrev pub invariant-levels : goal.invariant-levels
invariant-levels l = record { within : l.i < length l.levels; starts : Starts (chunk_at (item_lists l.levels) l.i) l.item l.from l.rest }

abbrev pub decreases-levels : goal.decreases-levels
decreases-levels l = l.i
