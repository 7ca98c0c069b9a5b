use Rattle.std.proofs.Common.{◌≡◌, ◌-◌, take}
use Rattle.std.specs.List.{filter}
use Rattle.std.specs.FinMap as map
use Rattle.df_colls.specs.Kept.{is_kept}
use Rattle.df_colls.proofs.set.SetVal.kept.Given as goal

abbrev pub invariant-runs : goal.invariant-runs
invariant-runs l = l.items.items ≡ filter (λ e. is_kept l.inside l.other-inside.entries.contents e.0) (take l.at (map.entries l.self-inside.entries.contents))

abbrev pub decreases-runs : goal.decreases-runs
decreases-runs l = map.len l.self-inside.entries.contents - l.at
