-- A list, and how many further elements it has room for.
use Rattle.std.specs.Prelude.{ℕ, List, refl}
use Rattle.std.specs.Coded.{Coded, code_by, coded×, coded_ℕ, coded_list}

pub record Spared (T : Type 0) : Type 0 where
  pub items : List T
  pub spare : ℕ

abbrev pub spared_code : {T : Type 0} → Coded T → Coded (Spared T)
spared_code c =
    code_by (List _ × ℕ) (coded× (coded_list c) coded_ℕ) (λ s. (s.items, s.spare)) (λ p. record { items = p.0; spare = p.1 }) (λ _. refl)

-- the list, with no further room: so are the lists of every finished command and reply
abbrev pub all_of : {T : Type 0} → List T → Spared T
all_of items = record { items = items; spare = 0 }
