use Rattle.std.proofs.Common.{◌≡◌, ◌-◌, length, take}
use Rattle.df_values.proofs.edit.pop_back.Given as goal

abbrev pub invariant-pops : goal.invariant-pops
invariant-pops l = take (length l.list.items - l.left) l.list.items ≡ take (length l.fn.list.items - l.fn.n) l.fn.list.items

abbrev pub decreases-pops : goal.decreases-pops
decreases-pops l = l.left
