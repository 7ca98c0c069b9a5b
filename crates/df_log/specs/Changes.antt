-- Changes of keys that wait until they are applied.
use Rattle.std.specs.Prelude.{cond, Option, Some, None, [], ◌∷◌}
use Rattle.df_model.specs.Values.{Bytes, Value}
use Rattle.df_model.specs.Keyspace.{Keyspace, with_held}
use Rattle.df_model.specs.Words.{same}
use Rattle.df_log.specs.Acts.{Changes}

-- what the changes make of a key, if they change it
abbrev pub change_of : Changes → Bytes → Option (Option Value)
change_of [] key = None
change_of (c ∷ changes) key = cond (same c.0 key) (Some c.1) (change_of changes key)

-- the keyspace with all of them
abbrev pub with_changes : Changes → Keyspace → Keyspace
with_changes [] K = K
with_changes (c ∷ changes) K = with_held (with_changes changes K) c.0 c.1
