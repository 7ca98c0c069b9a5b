use Rattle.std.proofs.Common.{◌≡◌, ◌++◌, ◌+◌, ◌-◌, ◌≤◌, drop}
use Rattle.std.specs.FinMap as map
use Rattle.df_colls.specs.Merged.{with_put}
use Rattle.df_colls.proofs.combine.united.Given as goal

abbrev pub invariant-runs : goal.invariant-runs
invariant-runs l = record {
  left_within : l.i ≤ map.len l.left.contents;
  right_within : l.j ≤ map.len l.right.contents;
  items : l.merged.items ++ with_put (drop l.j (map.entries l.right.contents)) (drop l.i (map.entries l.left.contents)) ≡ with_put (map.entries l.right.contents) (map.entries l.left.contents);
}

abbrev pub decreases-runs : goal.decreases-runs
decreases-runs l = (map.len l.left.contents - l.i) + (map.len l.right.contents - l.j)
