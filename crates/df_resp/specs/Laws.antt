-- Statements of laws.
use Rattle.std.specs.Prelude.{◌≡◌, ℕ, ◌+◌, ◌-◌, List, length}
use Rattle.df_model.specs.Values.{Bytes}
use Rattle.df_model.specs.Words.{Words}
use Rattle.df_model.specs.Framing.{Splits, Framed}
use Rattle.df_model.specs.BadInput.{BadAt}
use Rattle.df_model.specs.declared.session.BadKind.{BadKind}

abbrev pub EveryListIsFramed : Type 0
EveryListIsFramed = (bytes : Bytes) → (requests : List Words) × ((rest : Bytes) × Framed bytes requests rest)

abbrev pub FramingIsUnique : Type 0
FramingIsUnique = (bytes : Bytes) (requests requests' : List Words) (rest rest' : Bytes) → Framed bytes requests rest → Framed bytes requests' rest' → (requests ≡ requests') × (rest ≡ rest')

-- the first bad byte of what stands behind whole frames is that of the whole
abbrev pub BadByteBehindFrames : Type 0
BadByteBehindFrames = (bytes rest : Bytes) (requests : List Words) (at : ℕ) (kind : BadKind) → Splits bytes requests rest → BadAt rest at kind → BadAt bytes (length bytes - length rest + at) kind
