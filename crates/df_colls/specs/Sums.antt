-- Lengths, and levels of sums above them.
use Rattle.std.specs.Prelude.{◌≡◌, ℕ, ◌+◌, ◌-◌, ◌*◌, ◌/◌, ◌^◌, ◌<◌, ◌≤◌, List, [], ◌∷◌, length, map, sum, take, slice_index, slice_set, vec_len, vec_capacity, refl}
use Rattle.std.specs.List.{All}
use Rattle.std.specs.Coded.{Coded, code_by, coded×, coded_list, coded_ℕ}
use Rattle.std.specs.declared.vec.Vec.{Vec}
use Rattle.df_colls.specs.declared.sums.Spot.{Spot}
use Rattle.df_colls.specs.declared.sums.TheConstants.{WIDTH}
use Rattle.df_colls.specs.Parts.{item_lists}

-- the lengths, and how many there is room for
pub record Lens : Type 0 where
  pub lens : List ℕ
  pub room : ℕ

abbrev pub lens_code : Coded Lens
lens_code =
    code_by (List ℕ × ℕ) (coded× (coded_list coded_ℕ) coded_ℕ) (λ r. (r.lens, r.room)) (λ p. record { lens = p.0; room = p.1 }) (λ _. refl)

-- the lowest level
abbrev pub lowest : List (List ℕ) → List ℕ
lowest [] = []
lowest (l ∷ ls) = l

-- as many sums together are the sum of so many groups below
pub record IsAbove (upper lower : List ℕ) : Type 0 where
  pub len : length upper ≡ length lower / WIDTH + 1
  pub sums : (k : ℕ) → sum (take k upper) ≡ sum (take (k * WIDTH) lower)

-- the next level, if there is one, is above this one
abbrev pub IsNext : List ℕ → List (List ℕ) → Type 0
IsNext l [] = Unit {0}
IsNext l (u ∷ us) = IsAbove u l

-- each level is above the one before it
abbrev pub IsTower : List (List ℕ) → Type 0
IsTower [] = Unit {0}
IsTower (l ∷ ls) = IsNext l ls × IsTower ls

-- the levels once a length has become another
abbrev pub with_len : ℕ → ℕ → ℕ → List (List ℕ) → List (List ℕ)
with_len was len at [] = []
with_len was len at (l ∷ ls) = slice_set l at (slice_index l at - was + len) ∷ with_len was len (at / WIDTH) ls

-- the item falls into this length
pub record IsSpot (lens : List ℕ) (n : ℕ) (spot : Spot) : Type 0 where
  pub leaf : spot.leaf < length lens
  pub item : spot.rest + sum (take spot.leaf lens) ≡ n
  pub rest : spot.rest < slice_index lens spot.leaf

module _ {Z : Type 0} where
  -- a level with nothing in it, and room for so many numbers
  abbrev pub IsEmptyLevel : ℕ → Vec ℕ Z → Type 0
  IsEmptyLevel room v = (vec_len v ≡ 0) × (room ≤ vec_capacity v)

  pub record IsSumming (levels : List (Vec ℕ Z)) (room : ℕ) : Type 0 where
    pub tower : IsTower (item_lists levels)
    pub some : 0 < room → 0 < length levels
    pub wide : All (λ v. room ≤ vec_capacity v) levels
    pub within : length (lowest (item_lists levels)) ≤ room
    pub fits : sum (lowest (item_lists levels)) < 2 ^ 64

module _ {A Z : Type 0} where
  abbrev pub lens_of : List (Vec A Z) → List ℕ
  lens_of = map (λ c. vec_len c)

  -- the sums are over the lengths of the chunks, with room for those that are free
  pub record IsSummed (parts free : Vec (Vec A Z) Z) (sums : Lens) : Type 0 where
    pub lens : sums.lens ≡ lens_of parts.items
    pub leaves : length parts.items + length free.items ≤ sums.room
