-- One step past the first part of a pattern.
use Rattle.std.specs.Prelude.{◌≡◌, ◌≢◌, ◌⊎◌, ℕ, List, [], ◌∷◌, Option, Some, None, ◌≤◌, length}
use Rattle.std.specs.Borrow.{Bor}
use Rattle.df_model.specs.Values.{Bytes}
use Rattle.df_model.specs.Patterns.{Part, parts}
use Rattle.df_text.specs.Runs.{Ran, ran}

-- these parts take the byte and go on with what is left of the pattern, or they fail there
abbrev pub IsPast : List Part → ℕ → Option (Bor Bytes) → Type 0
IsPast ps byte None = (bs : Bytes) → ran ps (byte ∷ bs) ≡ Ran.Failed
IsPast ps byte (Some rest) = (bs : Bytes) → ran ps (byte ∷ bs) ≡ ran (parts rest.now) bs

-- what is left isn't longer
abbrev pub IsNoLonger : Bytes → Option (Bor Bytes) → Type 0
IsNoLonger bytes None = Unit {0}
IsNoLonger bytes (Some rest) = length rest.now ≤ length bytes

-- `\` and a further byte, and then the rest
abbrev pub IsEscaped : ℕ → Bytes → Option (ℕ × Bor Bytes) → Type 0
IsEscaped first rest None = (first ≢ 92) ⊎ (rest ≡ [])
IsEscaped first rest (Some p) = (first ≡ 92) × (rest ≡ p.0 ∷ p.1.now)
