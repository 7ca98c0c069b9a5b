-- Places and ranges of a list, or of the bytes of a string: a negative number counts from the end.
use Rattle.std.specs.Prelude.{ℕ, suc, ◌-◌, nat_lt, if◌then◌else◌, Option, Some, None, List, length, min, take, drop, ℤ, pos, negsuc}

-- the place that i means in a list of n elements: a negative one counts from the end
abbrev pub place : ℤ → ℕ → Option ℕ
place (pos i) n = if nat_lt i n then Some i else None
place (negsuc i) n = if nat_lt i n then Some (n - suc i) else None

-- where a range begins, in a list of n elements
abbrev pub start : ℤ → ℕ → ℕ
start (pos i) n = i
start (negsuc i) n = n - suc i

-- and the place behind its last one
abbrev pub stop : ℤ → ℕ → ℕ
stop (pos i) n = min n (suc i)
stop (negsuc i) n = n - i

-- both ends are in; the range is empty where it begins behind its end
abbrev pub ranged : {X : Type 0} → ℤ → ℤ → List X → List X
ranged from to xs = drop (start from (length xs)) (take (stop to (length xs)) xs)
