-- What a call was lent by an optional reference to a value, and what it left there.
use Rattle.std.specs.Prelude.{Option, Some, None, ◌⊎◌}
use mathlib.Core.Logic.{inl, inr}
use Rattle.std.specs.Borrow.{MutBor}
use Rattle.df_values.specs.declared.value.Value.{Value}

abbrev pub lent : Option (MutBor Value) → Option Value
lent None = None
lent (Some r) = Some r.now

abbrev pub left : Unit {0} ⊎ ((MutBor Value × Unit {0}) ⊎ ⊥) → Option Value
left (inl u) = None
left (inr (inl r)) = Some r.0.now
left (inr (inr b)) = absurd b
