-- The keyspace of all shards together.
use Rattle.std.specs.Prelude.{ℕ, zero, suc, List, [], ◌∷◌}
use Rattle.std.specs.FinMap as fin
use Rattle.df_model.specs.Values.{Bytes, Value}
use Rattle.df_model.specs.Keyspace.{Keyspace, with_held, no_keys}
use Rattle.std.specs.Prelude.{Some}
use Rattle.df_log.specs.Parts.{Part, own_keys}

abbrev pub with_pairs : List (Bytes × Value) → Keyspace → Keyspace
with_pairs [] K = K
with_pairs (p ∷ pairs) K = with_held (with_pairs pairs K) p.0 (Some p.1)

-- what is seen of the first n shards, of each the keys that stand on it
abbrev pub joined_to : ℕ → (ℕ → Part) → ℕ → Keyspace
joined_to shards parts zero = no_keys
joined_to shards parts (suc t) = with_pairs (fin.entries (own_keys shards t (parts t).visible)) (joined_to shards parts t)

abbrev pub joined : ℕ → (ℕ → Part) → Keyspace
joined shards parts = joined_to shards parts shards
