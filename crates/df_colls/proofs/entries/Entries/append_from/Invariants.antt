use Rattle.std.proofs.Common.{◌≡◌, ◌-◌, ◌++◌, drop}
use Rattle.std.specs.FinMap as map
use Rattle.df_colls.proofs.entries.Entries.append_from.Given as goal

abbrev pub invariant-runs : goal.invariant-runs
invariant-runs g l = l.to.items ++ drop l.at (map.entries l.self.contents) ≡ l.fn.to.items ++ drop l.from (map.entries l.self.contents)

abbrev pub decreases-runs : goal.decreases-runs
decreases-runs g l = map.len l.self.contents - l.at
