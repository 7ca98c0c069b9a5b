-- A list that is cut into chunks.
use Rattle.std.specs.Prelude.{ℕ, ◌+◌, ◌<◌, ◌≤◌, List, [], length, take, drop, slice_index_or, refl}
use Rattle.std.specs.List.{flat_map, All}
use Rattle.std.specs.Coded.{Coded, code_by, coded×, coded_list, coded_ℕ}
use Rattle.df_colls.specs.declared.chunks.Place.{Place}

-- the chunks, and room for more items
pub record Cut (A : Type 0) : Type 0 where
  pub parts : List (List A)
  pub spare : ℕ

abbrev pub cut_code : {A : Type 0} → Coded A → Coded (Cut A)
cut_code {A} c =
    code_by (List (List A) × ℕ) (coded× (coded_list (coded_list c)) coded_ℕ) (λ r. (r.parts, r.spare)) (λ p. record { parts = p.0; spare = p.1 }) (λ _. refl)

-- the list: one chunk after another
abbrev pub flat : {A : Type 0} → List (List A) → List A
flat = flat_map (λ c. c)

-- the chunk with this number
abbrev pub chunk_at : {A : Type 0} → List (List A) → ℕ → List A
chunk_at parts i = slice_index_or parts i []

-- where a place is in the list
abbrev pub index_of : {A : Type 0} → List (List A) → Place → ℕ
index_of parts place = length (flat (take place.chunk parts)) + place.at

-- an item stands there
abbrev pub IsPlace : {A : Type 0} → List (List A) → Place → Type 0
IsPlace parts place = (place.chunk < length parts) × (place.at < length (chunk_at parts place.chunk))

-- an item may go there
abbrev pub IsGap : {A : Type 0} → List (List A) → Place → Type 0
IsGap parts place = (place.chunk < length parts) × (place.at ≤ length (chunk_at parts place.chunk))

-- no chunk but the first is empty
abbrev pub IsFilled : {A : Type 0} → List (List A) → Type 0
IsFilled parts = All (λ c. 0 < length c) (drop 1 parts)
