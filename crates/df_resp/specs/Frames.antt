-- Reading a frame: a line with a count, and then so many words.
use Rattle.std.specs.Prelude.{ℕ, suc, zero, ◌+◌, ◌-◌, Bool, false, ◌==◌, ◌&&◌, min, if◌then◌else◌, Option, Some, None, [], ◌∷◌, ◌++◌, length, drop}
use Rattle.df_model.specs.Values.{Bytes}
use Rattle.df_model.specs.Words.{Words}
use Rattle.df_model.specs.Replies.{crlf}
use Rattle.df_model.specs.Framing.{Frame, MAX_WORDS, MAX_WORD, MAX_REQUEST}
use Rattle.df_model.specs.declared.session.BadKind.TheVariants as kinds
use Rattle.df_resp.specs.Scan.{Scan, and_then, fixed, some_bytes}
use Rattle.df_resp.specs.Lines.{line}

-- ---- words

-- a word of so many bytes, and its end
abbrev pub word_bytes : ℕ → Bytes → Scan Bytes
word_bytes n bytes = and_then (some_bytes n bytes) (λ word behind. and_then (fixed kinds.End crlf behind) (λ _ rest. Scan.Whole word rest))

-- a word of at most so many bytes
abbrev pub word : ℕ → Bytes → Scan Bytes
word limit bytes = and_then (line 36 kinds.Length limit bytes) word_bytes

-- what a word of a request may have, behind words with this many bytes together
abbrev pub room : ℕ → ℕ
room total = min MAX_WORD (MAX_REQUEST - total)

-- so many words of a request, behind others that have so many bytes together
abbrev pub words : ℕ → ℕ → Words → Bytes → Scan Frame
words zero total done bytes = Scan.Whole (Frame.Request done) bytes
words (suc k) total done bytes = and_then (word (room total) bytes) (λ w rest. words k (total + length w) (done ++ w ∷ []) rest)

-- ---- frames

abbrev pub begins_null : Bytes → Bool
begins_null [] = false
begins_null (a ∷ []) = false
begins_null (a ∷ b ∷ bytes) = (a == 42) && (b == 45)

-- a line with a count; or with -1, which is no count
abbrev pub head : Bytes → Scan (Option ℕ)
head bytes =
    if begins_null bytes then and_then (fixed kinds.Count (49 ∷ 13 ∷ 10 ∷ []) (drop 2 bytes)) (λ _ rest. Scan.Whole None rest)
    else and_then (line 42 kinds.Count MAX_WORDS bytes) (λ n rest. Scan.Whole (Some n) rest)

abbrev pub behind_head : Option ℕ → Bytes → Scan Frame
behind_head None rest = Scan.Whole Frame.NullWords rest
behind_head (Some n) rest = if n == 0 then Scan.Whole Frame.NoWords rest else words n 0 [] rest

abbrev pub frame : Bytes → Scan Frame
frame bytes = and_then (head bytes) behind_head
