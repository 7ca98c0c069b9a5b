use Rattle.std.proofs.Common.{◌≡◌, ◌≤◌, ◌-◌, length, drop}
use Rattle.df_outside.specs.Arrivals.{taken_at, first_bytes}
use Rattle.df_outside.proofs.arrivals.Arrivals.take.Given as goal

abbrev pub invariant-arrivals : goal.invariant-arrivals
invariant-arrivals l =
    (taken_at l.self-inside.number l.self-inside.at l.self-inside.arrivals.items ≡ l.fn.self)
    × (l.buf ≡ l.fn.buf)
    × (l.self-inside.number ≤ length l.self-inside.arrivals.items)
    × (l.self-inside.at ≤ length (first_bytes (drop l.self-inside.number l.self-inside.arrivals.items)))

abbrev pub decreases-arrivals : goal.decreases-arrivals
decreases-arrivals l = length l.self-inside.arrivals.items - l.self-inside.number
