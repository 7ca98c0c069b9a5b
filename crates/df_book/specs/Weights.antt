-- Sums over lists, and what holds of each element.
use Rattle.std.specs.Prelude.{ℕ, zero, suc, ◌+◌, ◌==◌, cond, List, [], ◌∷◌}

module _ {A : Type 0} where
  abbrev pub total : (A → ℕ) → List A → ℕ
  total g [] = 0
  total g (x ∷ xs) = g x + total g xs

  abbrev pub Each : (A → Type 0) → List A → Type 0
  Each P [] = Unit {0}
  Each P (x ∷ xs) = P x × Each P xs

-- f 0 + .. + f (n - 1)
abbrev pub below : (ℕ → ℕ) → ℕ → ℕ
below f zero = 0
below f (suc n) = below f n + f n

-- 1 at k, and 0 at any other number
abbrev pub hit : ℕ → ℕ → ℕ
hit k x = cond (x == k) 1 0

-- how often k stands in the list
abbrev pub count : ℕ → List ℕ → ℕ
count k xs = total (hit k) xs

abbrev pub head_or : ℕ → List ℕ → ℕ
head_or d [] = d
head_or d (x ∷ xs) = x

abbrev pub tail : List ℕ → List ℕ
tail [] = []
tail (x ∷ xs) = xs

-- n numbers from i on
abbrev pub from_on : ℕ → ℕ → List ℕ
from_on i zero = []
from_on i (suc n) = i ∷ from_on (suc i) n
