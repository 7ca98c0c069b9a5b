-- What stands at the front of bytes: a whole form, the front of one, or what begins none.
use Rattle.std.specs.Prelude.{◌≡◌, ℕ, ◌+◌, ◌<◌, ◌≤◌, ◌⊎◌, [], ◌∷◌, ◌++◌, length, take, drop}
use Rattle.std.specs.Fmt.{signed_decimal}
use Rattle.df_model.specs.Values.{Bytes}
use Rattle.df_model.specs.Framing.{MAX_WORD}
use Rattle.df_rdbcore.specs.Texts.{IsLength, IsText}
use Rattle.df_rdbcore.specs.declared.front.Seen.{Seen}
use Rattle.df_rdbcore.specs.declared.front.Seen.TheVariants as seen
use Rattle.df_rdbcore.specs.declared.front.SeenText.{SeenText}
use Rattle.df_rdbcore.specs.declared.front.SeenText.TheVariants as text

-- no whole form stands at the front
abbrev pub NoneBegins : {A : Type 0} → (Bytes → A → Type 0) → Bytes → Type 0
NoneBegins {A} P bytes = (form : Bytes) (a : A) (tail : Bytes) → P form a → bytes ≡ form ++ tail → ⊥

-- the first byte is 82 or above, which begins no length
abbrev pub BeginsNoLength : Bytes → Type 0
BeginsNoLength [] = ⊥
BeginsNoLength (b ∷ bs) = 130 ≤ b

-- the first byte is 82 to BF or C4 to FF, which begins no string
abbrev pub BeginsNoText : Bytes → Type 0
BeginsNoText [] = ⊥
BeginsNoText (b ∷ bs) = ((130 ≤ b) × (b < 192)) ⊎ (196 ≤ b)

-- C3: a compressed string
abbrev pub BeginsCompressed : Bytes → Type 0
BeginsCompressed [] = ⊥
BeginsCompressed (b ∷ bs) = b ≡ 195

-- the length of a string that is longer than a string may be
abbrev pub BeginsTooLong : Bytes → Type 0
BeginsTooLong bytes = (form : Bytes) × (n : ℕ) × (tail : Bytes) × IsLength form n × (MAX_WORD < n) × (bytes ≡ form ++ tail)

-- the front of a length: further bytes may make it whole
abbrev pub AwaitsLength : Bytes → Type 0
AwaitsLength bytes = NoneBegins IsLength bytes × ¬ (BeginsNoLength bytes)

-- the front of a string
pub record AwaitsText (bytes : Bytes) : Type 0 where
  pub none : NoneBegins IsText bytes
  pub begins : ¬ (BeginsNoText bytes)
  pub plain : ¬ (BeginsCompressed bytes)
  pub short : ¬ (BeginsTooLong bytes)

abbrev pub SeesLength : Seen → Bytes → Type 0
SeesLength seen.More bytes = AwaitsLength bytes
SeesLength seen.Bad bytes = BeginsNoLength bytes
SeesLength (seen.Whole n used) bytes = (used ≤ length bytes) × IsLength (take used bytes) n

abbrev pub SeesText : SeenText → Bytes → Type 0
SeesText text.More bytes = AwaitsText bytes
SeesText text.Bad bytes = BeginsNoText bytes ⊎ BeginsTooLong bytes
SeesText text.Compressed bytes = BeginsCompressed bytes
SeesText (text.Plain «from» n) bytes = («from» + n ≤ length bytes) × IsText (take («from» + n) bytes) (take n (drop «from» bytes))
SeesText (text.Number z used) bytes = (used ≤ length bytes) × IsText (take used bytes) (signed_decimal z)
