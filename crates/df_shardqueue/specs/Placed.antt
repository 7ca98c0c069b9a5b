-- Items with their places. The place of an item is how many were pushed before it.
use Rattle.std.specs.Prelude.{◌≡◌, ℕ, zero, suc, ◌+◌, ◌<◌, ◌≤◌, List, [], ◌∷◌, ◌++◌, cond, nat_lt}
use mathlib.Core.Option.{some}
use lib.ListN.{get_elem?}

-- each of the list is so
abbrev pub Each : {A : Type 0} → (A → Type 0) → List A → Type 0
Each P [] = Unit {0}
Each P (x ∷ xs) = P x × Each P xs

module _ {M : Type 0} where
  -- the items alone
  abbrev pub items_of : List (ℕ × M) → List M
  items_of [] = []
  items_of (e ∷ es) = e.1 ∷ items_of es

  -- each place is above those before it
  abbrev pub Rises : List (ℕ × M) → Type 0
  Rises [] = Unit {0}
  Rises (e ∷ es) = Each (λ (other : ℕ × M). e.0 < other.0) es × Rises es

  -- no place is below one before it
  abbrev pub Climbs : List (ℕ × M) → Type 0
  Climbs [] = Unit {0}
  Climbs (e ∷ es) = Each (λ (other : ℕ × M). e.0 ≤ other.0) es × Climbs es

  -- the item stands at its place in the list of all that was pushed
  abbrev pub StandsIn : List M → ℕ × M → Type 0
  StandsIn all e = get_elem? all e.0 ≡ some e.1

  -- one more at the back
  abbrev pub GrewBy : M → List (ℕ × M) → List (ℕ × M) → Type 0
  GrewBy x old new = (place : ℕ) × (new ≡ old ++ (place, x) ∷ [])

  -- put before the first one with a place above its own
  abbrev pub put : ℕ × M → List (ℕ × M) → List (ℕ × M)
  put e [] = e ∷ []
  put e (other ∷ es) = cond (nat_lt e.0 other.0) (e ∷ other ∷ es) (other ∷ put e es)

  -- the two lists in one, by their places
  abbrev pub merged : List (ℕ × M) → List (ℕ × M) → List (ℕ × M)
  merged [] es = es
  merged (x ∷ xs) es = put x (merged xs es)

  -- a number for each place, added up
  abbrev pub weigh : (ℕ → ℕ) → List (ℕ × M) → ℕ
  weigh h [] = 0
  weigh h (e ∷ es) = h e.0 + weigh h es

-- the same of every place below n
abbrev pub below : (ℕ → ℕ) → ℕ → ℕ
below h zero = 0
below h (suc n) = below h n + h n
