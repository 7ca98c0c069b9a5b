-- The keyspace that a map's entries make, and room for more keys.
use Rattle.std.specs.Prelude.{ℕ, List, map, refl}
use Rattle.std.specs.Coded.{Coded, code_by, coded×, coded_ℕ}
use Rattle.std.specs.FinMap as keyed
use Rattle.df_model.specs.Values.{Bytes, Value}
use Rattle.df_model.specs.Keyspace.{Keyspace, coded_keyspace}

-- each key holds what its entry is seen as
abbrev pub keyspace_of : {X : Type 0} → (X → Value) → List (Bytes × X) → Keyspace
keyspace_of seen entries = keyed.from_entries (map (λ entry. (entry.0, seen entry.1)) entries)

-- a keyspace, how many new keys it has room for, and how many further places are kept for keys to come
pub record Roomy : Type 0 where
  pub keys : Keyspace
  pub spare : ℕ
  pub kept : ℕ

abbrev pub roomy_code : Coded Roomy
roomy_code =
    code_by (Keyspace × (ℕ × ℕ)) (coded× coded_keyspace (coded× coded_ℕ coded_ℕ)) (λ r. (r.keys, (r.spare, r.kept))) (λ p. record { keys = p.0; spare = p.1.0; kept = p.1.1 }) (λ _. refl)
