-- What puts and removals come to, without making them.
use Rattle.std.specs.Prelude.{◌≡◌, ◌≢◌, ℕ, ◌+◌, Bool, true, false, not, ◌||◌, List, [], ◌∷◌, Option, Some, None}
use Rattle.std.specs.Ordering.{nat_cmp, eq_by_cmp}
use Rattle.std.specs.Cmp.Lexicographic.{slice_cmp}
use Rattle.std.specs.FinMap as map
use Rattle.df_model.specs.Values.{Bytes, Fields}
use Rattle.df_model.specs.Meaning.Hashes.{with_fields, without_fields}
use Rattle.df_model.specs.Words.{same}
use Rattle.df_colls.specs.Roomy.{RoomyMembers}

-- the word is one of these
abbrev pub has : List Bytes → Bytes → Bool
has [] word = false
has (w ∷ ws) word = eq_by_cmp (slice_cmp nat_cmp) word w || has ws word

-- a set of these words; without a set nothing is known
abbrev pub Knows : Option RoomyMembers → List Bytes → Type 0
Knows None words = Unit {0}
Knows (Some set) words = (q : Bytes) → map.contains_key set.members q ≡ has words q

-- whether the fields are altered
pub record Tells (alters : Bool) (old new : Fields) : Type 0 where
  pub yes : alters ≡ true → new ≢ old
  pub no : alters ≡ false → new ≡ old

-- one more pair was counted, before those that had been: `held` is what the field holds, and the pairs behind have
-- the field too where `again`
abbrev pub IsCounted : Bool → Bytes → Option Bytes → ℕ → Bool → ℕ → Bool → Type 0
IsCounted true word held new alters new_next alters_next = (new_next ≡ new) × (alters_next ≡ alters)
IsCounted false word None new alters new_next alters_next = (new_next ≡ new + 1) × (alters_next ≡ true)
IsCounted false word (Some bytes) new alters new_next alters_next = (new_next ≡ new) × (alters_next ≡ (alters || not (same bytes word)))

-- so many fields are new once the pairs are put, and whether that alters anything
pub record IsPutCount (new : ℕ) (alters : Bool) (pairs : List (Bytes × Bytes)) (fields : Fields) : Type 0 where
  pub size : map.len (with_fields pairs fields) ≡ new + map.len fields
  pub tells : Tells alters fields (with_fields pairs fields)

-- so many fields are gone once these words are removed
pub record IsDropCount (gone : ℕ) (words : List Bytes) (fields : Fields) : Type 0 where
  pub size : map.len (without_fields words fields) + gone ≡ map.len fields
  pub none : gone ≡ 0 → without_fields words fields ≡ fields
