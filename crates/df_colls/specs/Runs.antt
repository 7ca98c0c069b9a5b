-- What is lent of a map's entries.
use Rattle.std.specs.Prelude.{◌≡◌, List, ◌++◌, Option, Some, None}
use Rattle.std.specs.Borrow.{Bor}
use Rattle.df_model.specs.Values.{Bytes}

-- some front of the list
abbrev pub IsFront : {A : Type 0} → List A → List A → Type 0
IsFront {A} list front = (rest : List A) × (list ≡ front ++ rest)

-- what a pair of references points to
abbrev pub pair_copied : Option (Bor Bytes × Bor Bytes) → Option (Bytes × Bytes)
pair_copied None = None
pair_copied (Some p) = Some (p.0.now, p.1.now)
