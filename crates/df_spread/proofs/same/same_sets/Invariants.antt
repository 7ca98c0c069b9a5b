use Rattle.std.proofs.Common.{◌≡◌, drop}
use Rattle.std.specs.Cmp.Lexicographic.{pointwise}
use Rattle.df_model.specs.Words.{same}
use Rattle.df_model.specs.Members.{items}
use Rattle.df_spread.proofs.same.same_sets.Given as goal

abbrev pub invariant-members : goal.invariant-members
invariant-members l = pointwise same (drop l.at (items l.a.members)) (drop l.at (items l.b.members)) ≡ pointwise same (items l.a.members) (items l.b.members)
