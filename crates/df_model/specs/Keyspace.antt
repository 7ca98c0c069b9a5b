-- The keyspace: a finite map from byte strings to values.
use Rattle.std.specs.Prelude.{Option, Some, None}
use Rattle.std.specs.Ordering.{nat_cmp}
use Rattle.std.specs.Cmp.Lexicographic.{slice_cmp}
use Rattle.std.specs.FinMap.{FinMap}
use Rattle.std.specs.FinMap as map
use Rattle.std.specs.Coded.{Coded}
use Rattle.df_model.specs.Values.{Bytes, Value, coded_bytes, coded_value}

abbrev pub Keyspace : Type 0
Keyspace = FinMap (slice_cmp nat_cmp) Value

abbrev pub coded_keyspace : Coded Keyspace
coded_keyspace = map.code coded_bytes coded_value

abbrev pub no_keys : Keyspace
no_keys = map.empty

-- what a key holds
abbrev pub held : Keyspace → Bytes → Option Value
held = map.get

-- the keyspace in which the key holds this, or nothing
abbrev pub with_held : Keyspace → Bytes → Option Value → Keyspace
with_held K key None = map.remove K key
with_held K key (Some value) = map.insert K key value
