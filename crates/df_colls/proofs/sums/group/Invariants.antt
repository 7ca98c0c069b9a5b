use Rattle.std.proofs.Common.{◌≡◌, ◌≤◌, vec_len, vec_capacity}
use Rattle.df_colls.proofs.SumLaws.{Front}
use Rattle.df_colls.proofs.sums.group.Given as goal

abbrev pub invariant-groups : goal.invariant-groups
invariant-groups l =
    record { len : vec_len l.level ≡ l.i; sums : Front l.i l.level.items l.below; capacity : vec_capacity l.fn.level ≤ vec_capacity l.level }
