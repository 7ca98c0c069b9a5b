-- The first byte that makes an input bad, and what was expected in its place.
use Rattle.std.specs.Prelude.{◌≢◌, ℕ, ◌+◌, ◌<◌, List, [], ◌∷◌, ◌++◌, length, take}
use Rattle.std.specs.Fmt.{decimal}
use Rattle.std.specs.List.{flat_map, AllByRecursion}
use Rattle.df_model.specs.Values.{Bytes}
use Rattle.df_model.specs.Words.{Words}
use Rattle.df_model.specs.Replies.{crlf}
use Rattle.df_model.specs.Framing.{Frame, sent, sent_count, sent_word, CanGoOn, IsBad}
use Rattle.df_model.specs.declared.session.BadKind.{BadKind}
use Rattle.df_model.specs.declared.session.BadKind.TheVariants as kinds

-- a line that hasn't come to its line feed
abbrev pub IsUnended : Bytes → Type 0
IsUnended line = AllByRecursion (λ byte. byte ≢ 10) line

-- what the grammar expects behind these bytes; the first words of a request, with its count, are `begun`
pub data Expects : Bytes → BadKind → Type 0 where
  -- a request's `*`
  request : (frames : List Frame) → Expects (flat_map sent frames) kinds.Start
  -- the count of words and its line's end
  count : (frames : List Frame) (line : Bytes) → IsUnended line → Expects (flat_map sent frames ++ 42 ∷ line) kinds.Count
  -- a word's `$`
  word : (frames : List Frame) (n : ℕ) (begun : Words) → length begun < n →
      Expects (flat_map sent frames ++ (sent_count n ++ flat_map sent_word begun)) kinds.Start
  -- a word's length and its line's end
  length_line : (frames : List Frame) (n : ℕ) (begun : Words) (line : Bytes) → length begun < n → IsUnended line →
      Expects (flat_map sent frames ++ (sent_count n ++ flat_map sent_word begun ++ 36 ∷ line)) kinds.Length
  -- the CR behind a word's bytes
  word_cr : (frames : List Frame) (n : ℕ) (begun : Words) (bytes : Bytes) → length begun < n →
      Expects (flat_map sent frames ++ (sent_count n ++ flat_map sent_word begun ++ (36 ∷ decimal (length bytes) ++ crlf ++ bytes))) kinds.End
  -- and the LF behind that
  word_lf : (frames : List Frame) (n : ℕ) (begun : Words) (bytes : Bytes) → length begun < n →
      Expects (flat_map sent frames ++ (sent_count n ++ flat_map sent_word begun ++ (36 ∷ decimal (length bytes) ++ crlf ++ bytes ++ 13 ∷ []))) kinds.End

-- the bytes up to this place can go on, those up to and with the byte at it can't; this was expected there
pub record BadAt (bytes : Bytes) (at : ℕ) (kind : BadKind) : Type 0 where
  pub within : at < length bytes
  pub good_before : CanGoOn (take at bytes)
  pub bad_with : IsBad (take (at + 1) bytes)
  pub expects : Expects (take at bytes) kind
