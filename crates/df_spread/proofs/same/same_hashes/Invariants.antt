use Rattle.std.proofs.Common.{◌≡◌, drop}
use Rattle.std.specs.Cmp.Lexicographic.{pointwise}
use Rattle.std.specs.FinMap as fin
use Rattle.df_spread.specs.Pairs.{same_field}
use Rattle.df_spread.proofs.same.same_hashes.Given as goal

abbrev pub invariant-fields : goal.invariant-fields
invariant-fields l =
    pointwise same_field (drop l.at (fin.entries l.a.fields)) (drop l.at (fin.entries l.b.fields))
    ≡ pointwise same_field (fin.entries l.a.fields) (fin.entries l.b.fields)
