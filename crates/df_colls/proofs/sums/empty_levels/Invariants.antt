use Rattle.std.proofs.Common.{◌<◌, vec_len}
use Rattle.std.specs.List.{All}
use Rattle.df_colls.specs.Sums.{IsEmptyLevel}
use Rattle.df_colls.proofs.sums.empty_levels.Given as goal

abbrev pub invariant-levels : goal.invariant-levels
invariant-levels l = record { some : 0 < vec_len l.levels; empty : All (IsEmptyLevel l.wanted) l.levels.items }

abbrev pub decreases-levels : goal.decreases-levels
decreases-levels l = l.size
