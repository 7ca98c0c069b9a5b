-- Of one call's steps, more or fewer may have been seen.
use Rattle.std.specs.Prelude.{◌≡◌, ◌⊎◌, List, ◌++◌}
use Rattle.df_core.specs.Steps.{Step}

-- one of the two is a beginning of the other
abbrev pub Comparable : List Step → List Step → Type 0
Comparable xs ys = ((more : List Step) × (ys ≡ xs ++ more)) ⊎ ((more : List Step) × (xs ≡ ys ++ more))
