-- A reader's stream: what has come and isn't given yet.
use Rattle.std.specs.Prelude.{◌≡◌, ℕ, ◌+◌, ◌-◌, ◌^◌, ◌≤◌, ◌==◌, min, Option, if◌then◌else◌, [], ◌∷◌, ◌++◌, length}
use Rattle.std.specs.List.{flat_map, AllByRecursion}
use Rattle.std.specs.Fmt.{decimal}
use Rattle.df_model.specs.Values.{Bytes}
use Rattle.df_model.specs.Words.{Words}
use Rattle.df_model.specs.Framing.{sent_word, total_length, IsWord, MAX_WORDS, MAX_REQUEST}
use Rattle.df_model.specs.declared.session.BadKind.{BadKind}
use Rattle.df_resp.specs.declared.input.Begun.{Begun}

-- a place in the input, as far as the code counts
abbrev pub place_of : ℕ → ℕ
place_of n = min n (2 ^ 64 - 1)

-- the bytes that came behind the requests that were given, how many bytes of the input stand before them,
-- and the first bad byte, once it is found: what was expected in its stead, and its place in the input
pub record Stream : Type 0 where
  pub rest : Bytes
  pub before : ℕ
  pub failed : Option (BadKind × ℕ)

-- ---- a request that was begun

-- a count of words, and the first words
abbrev pub front : ℕ → Words → Bytes
front n words = 42 ∷ decimal n ++ 13 ∷ 10 ∷ flat_map sent_word words

-- words that were taken out of the buffer, and the buffer, as one
abbrev pub joined : ℕ → Words → Bytes → Bytes
joined missing words buffer = if missing == 0 then buffer else front (length words + missing) words ++ buffer

abbrev pub rest_of : Begun → Bytes → Bytes
rest_of begun buffer = joined begun.missing begun.words.items buffer

-- words that were taken, with their total length, while so many are missing
pub record Fits (missing total : ℕ) (words : Words) : Type 0 where
  pub each : AllByRecursion IsWord words
  pub total_is : total ≡ total_length words
  pub fits : total ≤ MAX_REQUEST
  pub count : length words + missing ≤ MAX_WORDS
  pub idle : missing ≡ 0 → words ≡ []

abbrev pub IsSound : Begun → Type 0
IsSound begun = Fits begun.missing begun.total begun.words.items

-- ---- counts of bytes

-- the buffer begins at `place`, the rest at `before`
pub record IsPlaced (before place : ℕ) (rest buffer : Bytes) : Type 0 where
  pub place_is : place ≡ place_of (before + (length rest - length buffer))
  pub within : length buffer ≤ length rest
  pub small : before ≤ 2 ^ 64 - 1

-- the count of bytes before the rest goes up by what left the rest
abbrev pub Counts : ℕ → Bytes → ℕ → Bytes → Type 0
Counts before rest before' rest' = before' ≡ place_of (before + (length rest - length rest'))
