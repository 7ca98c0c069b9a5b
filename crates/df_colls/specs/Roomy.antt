-- Finite maps and sets of byte strings, with room for more entries.
use Rattle.std.specs.Prelude.{ℕ, refl}
use Rattle.std.specs.Ordering.{nat_cmp}
use Rattle.std.specs.Cmp.Lexicographic.{slice_cmp}
use Rattle.std.specs.FinMap.{FinMap}
use Rattle.std.specs.FinMap as map
use Rattle.std.specs.Coded.{Coded, code_by, coded×, coded_ℕ}
use Rattle.std.specs.declared.cmp.Ordering.{Ordering}
use Rattle.df_model.specs.Values.{Bytes, Fields, Members, coded_bytes, coded_members}

-- byte order
abbrev pub order : Bytes → Bytes → Ordering
order = slice_cmp nat_cmp

-- a map to any values
pub record Roomy (X : Type 0) : Type 0 where
  pub contents : FinMap order X
  pub spare : ℕ

abbrev pub roomy_code : {X : Type 0} → Coded X → Coded (Roomy X)
roomy_code {X} c =
    code_by (FinMap order X × ℕ) (coded× (map.code coded_bytes c) coded_ℕ) (λ r. (r.contents, r.spare)) (λ p. record { contents = p.0; spare = p.1 }) (λ _. refl)

pub record RoomyFields : Type 0 where
  pub fields : Fields
  pub spare : ℕ

abbrev pub roomy_fields_code : Coded RoomyFields
roomy_fields_code =
    code_by (Fields × ℕ) (coded× (map.code coded_bytes coded_bytes) coded_ℕ) (λ r. (r.fields, r.spare)) (λ p. record { fields = p.0; spare = p.1 }) (λ _. refl)

pub record RoomyMembers : Type 0 where
  pub members : Members
  pub spare : ℕ

abbrev pub roomy_members_code : Coded RoomyMembers
roomy_members_code =
    code_by (Members × ℕ) (coded× coded_members coded_ℕ) (λ r. (r.members, r.spare)) (λ p. record { members = p.0; spare = p.1 }) (λ _. refl)
