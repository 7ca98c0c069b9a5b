use Rattle.std.proofs.Common.{◌≡◌, ◌+◌, ◌-◌, ◌<◌, length, sum, take}
use Rattle.df_colls.proofs.sums.walk.Given as goal

abbrev pub invariant-numbers : goal.invariant-numbers
invariant-numbers l =
    record { within : l.leaf < length l.level; item : l.rest + sum (take l.leaf l.level) ≡ l.fn.rest + sum (take l.fn.from l.level) }

abbrev pub decreases-numbers : goal.decreases-numbers
decreases-numbers l = length l.level - l.leaf
