-- The logs of a book by their number, beginnings of them, and what counts in them.
use Rattle.std.specs.Prelude.{◌≡◌, ◌≢◌, ℕ, zero, suc, ◌+◌, ◌<◌, ◌≤◌, ◌==◌, Bool, true, false, List, [], ◌∷◌, max, cond}
use Rattle.df_log.specs.Acts.{Act, Run, Read, Stage, Apply, Unstage, Begin, Walk, Count, Clear, Passed, Pull, Saved}
use Rattle.df_log.specs.Entries.{is_note}
use Rattle.df_log.specs.declared.entry.Entry.{Entry}
use Rattle.df_book.specs.Weights.{total, below, count, Each}

-- a log that is not listed is empty
abbrev pub at_log : List (List Entry) → ℕ → List Entry
at_log [] s = []
at_log (x ∷ xs) zero = x
at_log (x ∷ xs) (suc s) = at_log xs s

-- the logs with this one at s
abbrev pub with_log : List (List Entry) → ℕ → List Entry → List (List Entry)
with_log [] zero x = x ∷ []
with_log [] (suc s) x = [] ∷ with_log [] s x
with_log (y ∷ ys) zero x = x ∷ ys
with_log (y ∷ ys) (suc s) x = y ∷ with_log ys s x

-- ---- beginnings

abbrev pub IsPrefix : List Entry → List Entry → Type 0
IsPrefix [] ys = Unit {0}
IsPrefix (x ∷ xs) [] = ⊥
IsPrefix (x ∷ xs) (y ∷ ys) = (x ≡ y) × IsPrefix xs ys

-- each of these logs is a prefix of its namesake
abbrev pub Within : List (List Entry) → List (List Entry) → Type 0
Within xs logs = (s : ℕ) → IsPrefix (at_log xs s) (at_log logs s)

-- of two beginnings of one log, the longer
abbrev pub longer : List Entry → List Entry → List Entry
longer [] ys = ys
longer (x ∷ xs) [] = x ∷ xs
longer (x ∷ xs) (y ∷ ys) = x ∷ longer xs ys

-- of each log, two beginnings were seen, one is a prefix of the other, and the longer one is seen now
pub record BothSeen (xs ys now : List (List Entry)) : Type 0 where
  pub first : Within xs now
  pub second : Within ys now
  pub longer : (s : ℕ) → at_log now s ≡ longer (at_log xs s) (at_log ys s)

-- ---- numbers in logs

abbrev pub AllBelow : ℕ → List (List Entry) → Type 0
AllBelow n logs = (s : ℕ) → Each (λ (e : Entry). e.number < n) (at_log logs s)

-- the greatest number among the entries of a log that are no notes, or 0
abbrev pub greatest : List Entry → ℕ
greatest [] = 0
greatest (x ∷ xs) = max (cond (is_note x.act) 0 x.number) (greatest xs)

abbrev pub floor_of : List (List Entry) → ℕ
floor_of [] = 0
floor_of (x ∷ xs) = max (greatest x) (floor_of xs)

-- ---- what uses a running ticket up: all but the notes of a save

abbrev pub uses : Act → ℕ
uses (Run command) = 1
uses (Read keys) = 1
uses (Stage changes) = 1
uses Apply = 1
uses Unstage = 1
uses Begin = 1
uses Walk = 1
uses Count = 1
uses Clear = 1
uses Passed = 1
uses Pull = 0
uses Saved = 0

-- 1 at an entry or a Passed note of the number n
abbrev pub use_of : ℕ → Entry → ℕ
use_of n e = cond (e.number == n) (uses e.act) 0

-- how many of them stand in a log, and in the first c logs
abbrev pub uses_of : ℕ → List Entry → ℕ
uses_of n log = total (use_of n) log

abbrev pub uses_in : ℕ → List (List Entry) → ℕ → ℕ
uses_in n logs c = below (λ (s : ℕ). uses_of n (at_log logs s)) c

-- ---- what may be entered

-- the running tickets that were taken of its number are not used up
abbrev pub HasRoom : List Entry → List ℕ → Entry → Type 0
HasRoom log counted e = 0 < uses e.act → uses_of e.number log + uses e.act ≤ count e.number counted

abbrev pub is_passed : Act → Bool
is_passed (Run command) = false
is_passed (Read keys) = false
is_passed (Stage changes) = false
is_passed Apply = false
is_passed Unstage = false
is_passed Begin = false
is_passed Walk = false
is_passed Count = false
is_passed Clear = false
is_passed Passed = true
is_passed Pull = false
is_passed Saved = false

-- but for Passed notes, no hop of a call has two entries in a log, and none two notes
abbrev pub IsFresh : List Entry → Entry → Type 0
IsFresh log e =
    is_passed e.act ≡ false →
    Each (λ (x : Entry). is_passed x.act ≡ false → is_note x.act ≡ is_note e.act → x.number ≡ e.number → x.hop ≢ e.hop) log
