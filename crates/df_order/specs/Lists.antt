-- Words on lists, by recursion, so that proofs go by cases of the list.
use Rattle.std.specs.Prelude.{◌≡◌, ◌⊎◌, Bool, List, [], ◌∷◌, if◌then◌else◌}

-- x is in the list
abbrev pub Has : {X : Type 0} → List X → X → Type 0
Has [] x = ⊥
Has (y ∷ ys) x = (y ≡ x) ⊎ Has ys x

-- R holds of each element and each that stands behind it
abbrev pub Chain : {X : Type 0} → (X → X → Type 0) → List X → Type 0
Chain R [] = Unit {0}
Chain {X} R (x ∷ xs) = ((y : X) → Has xs y → R x y) × Chain R xs

-- the list with x in front, if the test holds
abbrev pub cons_if : {X : Type 0} → Bool → X → List X → List X
cons_if b x xs = if b then x ∷ xs else xs

-- the elements that pass, in their order
abbrev pub only : {X : Type 0} → (X → Bool) → List X → List X
only p [] = []
only p (x ∷ xs) = cons_if (p x) x (only p xs)
