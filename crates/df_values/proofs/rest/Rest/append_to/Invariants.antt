use Rattle.std.proofs.Common.{◌≡◌, ◌+◌, ◌≤◌, ◌++◌, length, drop, vec_len, vec_capacity}
use Rattle.df_values.specs.Joined.{joined}
use Rattle.df_values.proofs.rest.Rest.append_to.Given as goal

abbrev pub invariant-kept : goal.invariant-kept
invariant-kept l =
    (l.to.items ++ joined (drop l.bin-index l.self-inside.kept.items) ≡ l.fn.to.items ++ joined l.self-inside.kept.items)
    × (vec_len l.to + length (joined (drop l.bin-index l.self-inside.kept.items) ++ l.self-inside.tail.items) ≤ vec_capacity l.to)
