use Rattle.std.proofs.Common.{◌≡◌, ◌++◌, take}
use Rattle.df_colls.proofs.copies.append.Given as goal

abbrev pub invariant-items : goal.invariant-items
invariant-items g l = l.to.items ≡ l.initial.to.items ++ take l.item-index l.items
