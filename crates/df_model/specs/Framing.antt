-- Requests on a stream (RESP2), and the stream as whole requests and a rest.
use Rattle.std.specs.Prelude.{◌≡◌, ℕ, ◌+◌, ◌<◌, ◌≤◌, List, [], ◌∷◌, ◌++◌, length, codes, Option, Some, None}
use Rattle.std.specs.Fmt.{decimal}
use Rattle.std.specs.List.{flat_map, filter_map, AllByRecursion}
use Rattle.df_model.specs.Values.{Bytes}
use Rattle.df_model.specs.Words.{Words}
use Rattle.df_model.specs.Replies.{crlf}

-- ---- requests

-- words of a request
abbrev pub MAX_WORDS : ℕ
MAX_WORDS = 1048576

-- bytes of a word
abbrev pub MAX_WORD : ℕ
MAX_WORD = 536870912

-- bytes of all words of a request together
abbrev pub MAX_REQUEST : ℕ
MAX_REQUEST = 1073741824

-- a word as it is sent: its length, then its bytes
abbrev pub sent_word : Bytes → Bytes
sent_word word = codes "$" ++ decimal (length word) ++ crlf ++ word ++ crlf

-- the line before the words: their count
abbrev pub sent_count : ℕ → Bytes
sent_count n = codes "*" ++ decimal n ++ crlf

abbrev pub sent_request : Words → Bytes
sent_request words = sent_count (length words) ++ flat_map sent_word words

-- how many bytes the words have together
abbrev pub total_length : Words → ℕ
total_length [] = 0
total_length (word ∷ words) = length word + total_length words

abbrev pub IsWord : Bytes → Type 0
IsWord word = length word ≤ MAX_WORD

-- the words that a request may have
pub record IsRequest (words : Words) : Type 0 where
  pub some : 0 < length words
  pub count : length words ≤ MAX_WORDS
  pub each : AllByRecursion IsWord words
  pub total : total_length words ≤ MAX_REQUEST

-- ---- frames: what stands on a stream

-- a request, or one of the two forms that have no words: they are skipped and get no reply
pub data Frame : Type 0 where
  Request : Words → Frame
  NoWords : Frame
  NullWords : Frame

abbrev pub sent : Frame → Bytes
sent (Frame.Request words) = sent_request words
sent Frame.NoWords = codes "*0" ++ crlf
sent Frame.NullWords = codes "*-1" ++ crlf

abbrev pub IsFrame : Frame → Type 0
IsFrame (Frame.Request words) = IsRequest words
IsFrame Frame.NoWords = Unit {0}
IsFrame Frame.NullWords = Unit {0}

abbrev pub words_of : Frame → Option Words
words_of (Frame.Request words) = Some words
words_of Frame.NoWords = None
words_of Frame.NullWords = None

-- whole frames, with these requests among them, and then a rest
pub record Splits (bytes : Bytes) (requests : List Words) (rest : Bytes) : Type 0 where
  pub frames : List Frame
  pub each : AllByRecursion IsFrame frames
  pub whole : bytes ≡ flat_map sent frames ++ rest
  pub requests_are : requests ≡ filter_map words_of frames

pub record BeginsWhole (bytes : Bytes) : Type 0 where
  pub frame : Frame
  pub is_frame : IsFrame frame
  pub more : Bytes
  pub whole : bytes ≡ sent frame ++ more

-- no whole frame yet, and some further bytes make it one
pub record IsPartial (bytes : Bytes) : Type 0 where
  pub frame : Frame
  pub is_frame : IsFrame frame
  pub more : Bytes
  pub goes_on : 0 < length more
  pub whole : bytes ++ more ≡ sent frame

-- the stream is whole requests, in order, and then a rest that begins with no whole one
pub record Framed (bytes : Bytes) (requests : List Words) (rest : Bytes) : Type 0 where
  pub splits : Splits bytes requests rest
  pub no_whole : ¬ (BeginsWhole rest)

-- ---- bad input

-- some further bytes, or none, make these bytes a list of whole frames
pub record CanGoOn (bytes : Bytes) : Type 0 where
  pub more : Bytes
  pub frames : List Frame
  pub each : AllByRecursion IsFrame frames
  pub whole : bytes ++ more ≡ flat_map sent frames

-- no continuation makes these bytes a list of whole frames
abbrev pub IsBad : Bytes → Type 0
IsBad bytes = ¬ (CanGoOn bytes)
