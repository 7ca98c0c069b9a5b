use Rattle.std.proofs.Common.{◌≡◌, drop}
use Rattle.df_sets.specs.Combined.{folded, lent_members}
use Rattle.df_sets.proofs.fold.next_each.Given as goal

abbrev pub invariant-sets : goal.invariant-sets
invariant-sets l = folded l.op l.so_far.members (lent_members (drop l.set-index l.sets)) ≡ folded l.op l.fn.so_far.members (lent_members l.sets)
