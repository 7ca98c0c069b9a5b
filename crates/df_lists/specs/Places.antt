-- Where LINSERT puts its element.
use Rattle.std.specs.Prelude.{ℕ, suc, ◌+◌, List, [], ◌∷◌, Option, Some, None, if◌then◌else◌}
use Rattle.df_model.specs.Values.{Bytes}
use Rattle.df_model.specs.Words.{same}
use Rattle.df_model.specs.declared.command.Beside.{Beside}
use Rattle.df_model.specs.declared.command.Beside.TheVariants.{Before, After}

abbrev pub further : ℕ → Option ℕ → Option ℕ
further n None = None
further n (Some i) = Some (n + i)

-- the place of the first p
abbrev pub place_of : Bytes → List Bytes → Option ℕ
place_of p [] = None
place_of p (x ∷ xs) = if same x p then Some 0 else further 1 (place_of p xs)

abbrev pub beside_place : Beside → ℕ → ℕ
beside_place Before i = i
beside_place After i = suc i
