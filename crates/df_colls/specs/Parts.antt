-- Chunks as they lie in memory: what holds of them, and how many puts find room.
use Rattle.std.specs.Prelude.{◌≡◌, ℕ, ◌+◌, ◌-◌, ◌*◌, ◌<◌, ◌≤◌, ◌⊎◌, List, [], ◌∷◌, ◌++◌, length, map, drop, slice_set, slice_index_or, vec_len, vec_capacity, min, max}
use Rattle.std.specs.declared.vec.Vec.{Vec}
use Rattle.std.specs.List.{sum_by, All, insert}
use Rattle.df_colls.specs.declared.chunks.Place.{Place}
use Rattle.df_colls.specs.declared.chunks.TheConstants.{FULL, HALF, MOST}
use Rattle.df_colls.specs.Cuts.{flat}

module _ {A Z : Type 0} where
  abbrev pub item_lists : List (Vec A Z) → List (List A)
  item_lists = map (λ c. c.items)

  -- how many items more than half of a full chunk each chunk has, together
  abbrev pub excess : List (Vec A Z) → ℕ
  excess = sum_by (λ c. vec_len c - HALF)

  -- the room of a chunk that stands alone
  abbrev pub alone : List (Vec A Z) → ℕ
  alone [] = 0
  alone (c ∷ []) = min (vec_capacity c) FULL - vec_len c
  alone (c ∷ d ∷ cs) = 0

  -- Puts that surely find room: a free chunk serves one put at least, and half a chunk's worth once the full chunks are split.
  abbrev pub spare_of : List (Vec A Z) → List (Vec A Z) → ℕ
  spare_of parts free = max (alone parts) (max (length free) (HALF * length free - excess parts))

  -- a chunk that may take the upper half of a full one
  abbrev pub IsFree : Vec A Z → Type 0
  IsFree c = (vec_len c ≡ 0) × (FULL ≤ vec_capacity c)

  pub record IsSound (parts free : Vec (Vec A Z) Z) (n : ℕ) : Type 0 where
    pub count : n ≡ length (flat (item_lists parts.items))
    pub filled : All (λ c. 0 < vec_len c) (drop 1 parts.items)
    pub fits : All (λ c. vec_len c ≤ FULL) parts.items
    pub wide : 1 < length parts.items + length free.items → All (λ c. FULL ≤ vec_capacity c) parts.items
    pub empty : All IsFree free.items
    pub some : 0 < length free.items → 0 < length parts.items
    pub room : length parts.items + length free.items ≤ vec_capacity parts
    pub few : length parts.items + length free.items ≤ MOST

  -- two halves of a chunk, with one item more than fill it
  pub record AreHalves (low high : Vec A Z) (whole : List A) : Type 0 where
    pub items : low.items ++ high.items ≡ whole
    pub lens : vec_len low + vec_len high ≡ FULL + 1
    pub low_len : (HALF ≤ vec_len low) × (vec_len low ≤ FULL)
    pub high_len : (HALF ≤ vec_len high) × (vec_len high ≤ FULL)
    pub wide : (FULL ≤ vec_capacity low) × (FULL ≤ vec_capacity high)

  -- the chunk of this place is full
  abbrev pub IsFull : List (Vec A Z) → Place → Type 0
  IsFull parts place = (c : Vec A Z) → c ≡ slice_index_or parts place.chunk c → (vec_len c ≡ FULL) × (FULL ≤ vec_capacity c) × (place.at ≤ FULL)

  -- a full chunk became two, with the item in one of them
  pub record IsSplit (old new : List (Vec A Z)) (place : Place) (item : A) : Type 0 where
    pub was : Vec A Z
    pub low : Vec A Z
    pub high : Vec A Z
    pub was_is : was ≡ slice_index_or old place.chunk was
    pub new_is : new ≡ insert (slice_set old place.chunk low) (place.chunk + 1) high
    pub halves : AreHalves low high (insert was.items place.at item)

  -- one more, or the same
  abbrev pub HasMore : List (Vec A Z) → List (Vec A Z) → Vec A Z → Type 0
  HasMore old new c = (new ≡ old ++ c ∷ []) ⊎ (new ≡ old)
