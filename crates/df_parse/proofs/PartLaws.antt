-- What is read among the rows that a word can name is read in the whole table.
use Rattle.std.proofs.Common.{◌≡◌, ℕ, ◌<◌, ◌≤◌, ◌⊎◌, ◌&&◌, leb, arith, List, [], ◌∷◌, refl, sym, ap, ◌∙◌, length, Bool, true, false, eqb}
use mathlib.Core.Logic.{inl, inr}
use Rattle.std.specs.Str.{str_to_ascii_lowercase}
use Rattle.std.specs.Char.{to_ascii_lowercase}
use Rattle.std.proofs.lemmas.List.{length-map}
use Rattle.std.proofs.lemmas.Bool.{cases_Bool, eq-eqb, ne_eqb, leb-true, and_parts}
use Rattle.std.proofs.lemmas.Slice.Eq.{bytes_eq-Decides}
use Rattle.df_model.specs.Values.{Bytes}
use Rattle.df_model.specs.Words.{Words, is_name}
use Rattle.df_model.specs.Reads.{reads_by, rows}
use Rattle.df_model.specs.Reads.Shapes.{Row}
use Rattle.df_parse.specs.Parts.{before, only, only_length, only_begun, initial, is_another}

-- a test that a word passes with each of its names: it looks at no more than is_name does
abbrev Fair : (Bytes → Bool) → Type 0
Fair test = (word name : Bytes) → is_name word name ≡ true → test name ≡ test word

-- one row: it is passed over by the word and kept from the part, or it is in both
passes : (test : Bytes → Bool) → Fair test → (r : Row) (name : Bytes) (words : Words) (more less : List Row) → test name ≡ true →
    reads_by more name words ≡ reads_by less name words → reads_by (r ∷ more) name words ≡ reads_by (before (test r.name) r less) name words
passes test fair r name words more less passed h =
    elim (cases_Bool (is_name name r.name)) [
      | inl is ↦ rw (fair name r.name is ∙ passed, is) refl
      | inr isnt ↦ elim (test r.name) as (λ t. reads_by (r ∷ more) name words ≡ reads_by (before t r less) name words) [
        | true ↦ rw (isnt) h
        | false ↦ rw (isnt) h
      ]
    ]

reads_by-only : (test : Bytes → Bool) → Fair test → (table : List Row) (name : Bytes) (words : Words) → test name ≡ true →
    reads_by table name words ≡ reads_by (only test table) name words
reads_by-only test fair [] name words passed = refl
reads_by-only test fair (r ∷ rs) name words passed =
    passes test fair r name words rs (only test rs) passed (reads_by-only test fair rs name words passed)

-- the word and its name are the same in lower case
lowered : (word name : Bytes) → is_name word name ≡ true → str_to_ascii_lowercase name ≡ str_to_ascii_lowercase word
lowered word name h = sym ((bytes_eq-Decides (str_to_ascii_lowercase word) (str_to_ascii_lowercase name)).0 h)

lengths_same : (word name : Bytes) → is_name word name ≡ true → length name ≡ length word
lengths_same word name h =
    sym (length-map name to_ascii_lowercase) ∙ (ap length (lowered word name h) ∙ length-map word to_ascii_lowercase)

abbrev first_or_none : Bytes → ℕ
first_or_none [] = 0
first_or_none (b ∷ bs) = b

initial-lowered : (name : Bytes) → initial name ≡ first_or_none (str_to_ascii_lowercase name)
initial-lowered [] = refl
initial-lowered (b ∷ bs) = refl

initials_same : (word name : Bytes) → is_name word name ≡ true → initial name ≡ initial word
initials_same word name h = initial-lowered name ∙ (ap first_or_none (lowered word name h) ∙ sym (initial-lowered word))

-- ---- the part that the code looks through

pub read_begun : (test : ℕ → Bool) (n : ℕ) (name : Bytes) (words : Words) → test (initial name) ≡ true → length name ≡ n →
    reads_by rows name words ≡ reads_by (only_begun test n rows) name words
read_begun test n name words begun long =
    reads_by-only (λ it. test (initial it)) (λ word it same. ap test (initials_same word it same)) rows name words begun
    ∙ reads_by-only (λ it. eqb (length it) n) (λ word it same. ap (λ m. eqb m n) (lengths_same word it same)) (only (λ it. test (initial it)) rows) name words (eq-eqb (length name) n long)

-- a first letter that none of the tests takes
pub another : (letter : ℕ) → (letter ≡ 104 → ⊥) → (letter ≡ 108 → ⊥) → (letter ≡ 114 → ⊥) → (letter ≡ 115 → ⊥) → is_another letter ≡ true
another letter h l r s = rw (ne_eqb letter 104 h, ne_eqb letter 108 l, ne_eqb letter 114 r, ne_eqb letter 115 s) refl

-- ---- lengths that no name has

-- whether all names have a length from one to the other
abbrev pub within : ℕ → ℕ → List Row → Bool
within low high [] = true
within low high (r ∷ rs) = leb low (length r.name) && leb (length r.name) high && within low high rs

pub none_outside : (low high n : ℕ) (table : List Row) → within low high table ≡ true → (n < low) ⊎ (high < n) → only_length n table ≡ []
none_outside low high n [] h out = refl
none_outside low high n (r ∷ rs) h out =
    let parts = and_parts (leb low (length r.name) && leb (length r.name) high) (within low high rs) h in
    let bounds = and_parts (leb low (length r.name)) (leb (length r.name) high) parts.0 in
    rw (ne_eqb (length r.name) n (λ same. outside (length r.name) n (leb-true low (length r.name) bounds.0) (leb-true (length r.name) high bounds.1) out same)) (none_outside low high n rs parts.1 out)
  where
    -- no number is both inside and outside
    outside : (m k : ℕ) → low ≤ m → m ≤ high → (k < low) ⊎ (high < k) → m ≡ k → ⊥
    outside m k more less (inl below) same = absurd (omega arith)
    outside m k more less (inr above) same = absurd (omega arith)
