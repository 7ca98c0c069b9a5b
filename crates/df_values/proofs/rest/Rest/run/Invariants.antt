use Rattle.std.proofs.Common.{◌≡◌, ◌++◌, drop}
use Rattle.df_values.specs.Joined.{joined}
use Rattle.df_values.proofs.rest.Rest.run.Given as goal

abbrev pub invariant-kept : goal.invariant-kept
invariant-kept l = drop l.at (joined (drop l.bin-index l.self-inside.kept.items) ++ l.self-inside.tail.items) ≡ drop l.fn.from (joined l.self-inside.kept.items ++ l.self-inside.tail.items)
