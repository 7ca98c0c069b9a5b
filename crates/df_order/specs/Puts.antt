-- Functions of numbers, changed at one of them.
use Rattle.std.specs.Prelude.{ℕ, eqb, if◌then◌else◌}

-- f, but x at k
abbrev pub put : {X : Type 0} → ℕ → X → (ℕ → X) → ℕ → X
put k x f j = if eqb j k then x else f j
