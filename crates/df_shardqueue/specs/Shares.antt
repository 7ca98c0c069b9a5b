-- What part of a queue a pass has. The first pass has all of it, a further pass takes half of what its maker has, a join adds two parts. So the pass that all others were joined into has all of it again.
use Rattle.std.specs.Prelude.{◌≡◌, ℕ, zero, suc, ◌+◌, ◌-◌, List, [], ◌∷◌}

-- so much in units of which twice as many make a whole, and again
abbrev pub doubled : ℕ → ℕ → ℕ
doubled part zero = part
doubled part (suc times) = doubled part times + doubled part times

-- a part of 2 to the power of cuts
pub record Share : Type 0 where
  pub part : ℕ
  pub cuts : ℕ

abbrev pub share : ℕ → ℕ → Share
share part cuts = record { part = part; cuts = cuts }

abbrev pub all_of_it : Share
all_of_it = share 1 0

abbrev pub half : Share → Share
half s = share s.part (suc s.cuts)

abbrev pub together : Share → Share → Share
together s t = share (doubled s.part (t.cuts - s.cuts) + doubled t.part (s.cuts - t.cuts)) (s.cuts + (t.cuts - s.cuts))

abbrev pub IsAll : Share → Type 0
IsAll s = s.part ≡ doubled 1 s.cuts

-- a share in units of 2 to the power of depth
abbrev pub units : ℕ → Share → ℕ
units depth s = doubled s.part (depth - s.cuts)

-- a number for each of a list, added up
abbrev pub total : {A : Type 0} → (A → ℕ) → List A → ℕ
total f [] = 0
total f (x ∷ xs) = f x + total f xs
