use Rattle.std.proofs.Common.{◌≡◌, ◌-◌, ◌≤◌, ◌++◌, length, take}
use Rattle.df_values.proofs.pieces.Pieces.add_all.Given as goal

abbrev pub invariant-runs : goal.invariant-runs
invariant-runs l = record {
  within : l.at ≤ length l.other;
  said : l.self ≡ l.fn.self ++ take l.at l.other;
}

abbrev pub decreases-runs : goal.decreases-runs
decreases-runs l = length l.other - l.at
