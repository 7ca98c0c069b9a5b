use Rattle.std.proofs.Common.{◌≡◌, vec_len}
use Rattle.df_colls.specs.Parts.{item_lists}
use Rattle.df_colls.specs.Sums.{lowest}
use Rattle.df_colls.proofs.SumLaws.{Grouped}
use Rattle.df_colls.proofs.sums.regroup.Given as goal

abbrev pub invariant-levels : goal.invariant-levels
invariant-levels l =
    record { len : vec_len l.levels ≡ vec_len l.fn.levels; groups : Grouped l.levels.items l.i l.room (lowest (item_lists l.fn.levels.items)) }
