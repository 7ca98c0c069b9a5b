-- Parts of the table: the rows that a word can name, by its length and its first letter.
use Rattle.std.specs.Prelude.{ℕ, List, [], ◌∷◌, Bool, true, false, eqb, length, ◌||◌, not}
use Rattle.std.specs.Char.{to_ascii_lowercase}
use Rattle.std.specs.Str.{byte}
use Rattle.df_model.specs.Values.{Bytes}
use Rattle.df_model.specs.Reads.Shapes.{Row}
use Rattle.df_parse.specs.declared.table.Initial.{Initial}
use Rattle.df_parse.specs.declared.table.Initial.TheVariants as initials

-- the row before these ones, or these ones alone
abbrev pub before : Bool → Row → List Row → List Row
before true r rs = r ∷ rs
before false r rs = rs

-- the rows whose name passes a test, in their order
abbrev pub only : (Bytes → Bool) → List Row → List Row
only test [] = []
only test (r ∷ rs) = before (test r.name) r (only test rs)

-- the rows whose name has this length
abbrev pub only_length : ℕ → List Row → List Row
only_length n = only (λ name. eqb (length name) n)

-- the first letter in lower case
abbrev pub initial : Bytes → ℕ
initial [] = 0
initial (b ∷ bs) = to_ascii_lowercase b

abbrev pub is_h : ℕ → Bool
is_h letter = eqb letter (byte "h")

abbrev pub is_l_or_r : ℕ → Bool
is_l_or_r letter = eqb letter (byte "l") || eqb letter (byte "r")

abbrev pub is_s : ℕ → Bool
is_s letter = eqb letter (byte "s")

abbrev pub is_another : ℕ → Bool
is_another letter = not (is_h letter || is_l_or_r letter || is_s letter)

-- whether a first letter is of this part
abbrev pub in_part : Initial → ℕ → Bool
in_part initials.H = is_h
in_part initials.LOrR = is_l_or_r
in_part initials.S = is_s
in_part initials.Another = is_another

-- the rows whose name has this length and a first letter that passes a test
abbrev pub only_begun : (ℕ → Bool) → ℕ → List Row → List Row
only_begun test n table = only_length n (only (λ name. test (initial name)) table)
