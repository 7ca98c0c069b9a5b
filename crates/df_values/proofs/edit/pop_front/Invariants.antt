use Rattle.std.proofs.Common.{◌≡◌, drop}
use Rattle.df_values.proofs.edit.pop_front.Given as goal

abbrev pub invariant-pops : goal.invariant-pops
invariant-pops l = drop l.left l.list.items ≡ drop l.fn.n l.fn.list.items

abbrev pub decreases-pops : goal.decreases-pops
decreases-pops l = l.left
