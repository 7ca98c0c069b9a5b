use Rattle.std.proofs.Common.{◌≡◌, ◌++◌, take}
use Rattle.std.specs.List.{filter}
use Rattle.df_colls.specs.Kept.{is_kept}
use Rattle.df_colls.proofs.combine.keep.Given as goal

abbrev pub invariant-items : goal.invariant-items
invariant-items l = l.to.items ≡ l.fn.to.items ++ filter (λ e. is_kept l.inside l.other.contents e.0) (take l.item-index l.items)
