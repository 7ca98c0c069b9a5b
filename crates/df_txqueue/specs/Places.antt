-- Places in the order of their calls' numbers.
use Rattle.std.specs.Prelude.{◌≡◌, ℕ, ◌<◌, ◌≤◌, List, [], ◌∷◌, Option, Some, None, Bool, true, cond, ◌==◌, nat_lt, is_some, All}
use Rattle.df_txqueue.specs.declared.place.Place.{Place}

-- the places, the oldest call's first, and for how many more there is room
pub record Queue : Type 0 where
  pub places : List Place
  pub spare : ℕ

-- ---- order

-- every call here is newer than that with this number
abbrev pub AllAbove : ℕ → List Place → Type 0
AllAbove number [] = Unit {0}
AllAbove number (p ∷ ps) = (number < p.number) × AllAbove number ps

-- each call is newer than all that stand before it, so no number stands here twice
abbrev pub Ascending : List Place → Type 0
Ascending [] = Unit {0}
Ascending (p ∷ ps) = AllAbove p.number ps × Ascending ps

-- ---- what is read

-- the place of the call with this number
abbrev pub place_of : ℕ → List Place → Option Place
place_of number [] = None
place_of number (p ∷ ps) = cond (p.number == number) (Some p) (place_of number ps)

-- whether the call with this number has a place
abbrev pub is_queued : ℕ → List Place → Bool
is_queued number ps = is_some (place_of number ps)

-- the number of the call whose place is the last
abbrev pub last_number : List Place → Option ℕ
last_number [] = None
last_number (p ∷ []) = Some p.number
last_number (p ∷ q ∷ ps) = last_number (q ∷ ps)

-- the call with this number has a place, and no call here has a lesser number
pub record IsLeast (number : ℕ) (ps : List Place) : Type 0 where
  pub queued : is_queued number ps ≡ true
  pub least : All (λ p. number ≤ p.number) ps

-- the call with this number has a place, and no call here has a greater number
pub record IsGreatest (number : ℕ) (ps : List Place) : Type 0 where
  pub queued : is_queued number ps ≡ true
  pub greatest : All (λ p. p.number ≤ number) ps

-- ---- what changes

-- the places with a further one, which goes before the first with a greater number
abbrev pub with_place : Place → List Place → List Place
with_place place [] = place ∷ []
with_place place (p ∷ ps) = cond (nat_lt place.number p.number) (place ∷ p ∷ ps) (p ∷ with_place place ps)

-- the places of the calls that have other numbers than this, in their order
abbrev pub without : ℕ → List Place → List Place
without number [] = []
without number (p ∷ ps) = cond (p.number == number) (without number ps) (p ∷ without number ps)
