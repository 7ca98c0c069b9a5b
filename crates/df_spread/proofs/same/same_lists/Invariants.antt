use Rattle.std.proofs.Common.{◌≡◌, drop}
use Rattle.std.specs.Cmp.Lexicographic.{pointwise}
use Rattle.df_model.specs.Words.{same}
use Rattle.df_spread.proofs.same.same_lists.Given as goal

abbrev pub invariant-elements : goal.invariant-elements
invariant-elements l = pointwise same (drop l.at l.a.items) (drop l.at l.b.items) ≡ pointwise same l.a.items l.b.items
