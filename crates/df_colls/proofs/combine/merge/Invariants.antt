use Rattle.std.proofs.Common.{◌≤◌, ◌+◌, ◌-◌, length}
use Rattle.df_colls.specs.Merged.{IsMerged}
use Rattle.df_colls.proofs.combine.merge.Given as goal

abbrev pub invariant-pairs : goal.invariant-pairs
invariant-pairs l =
    record { ours : l.i ≤ length l.ours; theirs : l.j ≤ length l.theirs; merged : IsMerged l.fn.to.items l.to.items l.ours l.theirs l.i l.j }

abbrev pub decreases-pairs : goal.decreases-pairs
decreases-pairs l = (length l.ours - l.i) + (length l.theirs - l.j)
