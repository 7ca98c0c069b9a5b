-- The sets that keys hold, where those of another kind were ruled out.
use Rattle.std.specs.Prelude.{Option, Some, None}
use Rattle.df_model.specs.Members as members
use Rattle.df_model.specs.Values.{Bytes, Value, Members}
use Rattle.df_model.specs.Keyspace.{Keyspace, held}

-- what is missing counts as the empty set
abbrev pub set_in : Option Value → Members
set_in None = members.empty
set_in (Some (Value.Set s)) = s
set_in (Some (Value.Str b)) = members.empty
set_in (Some (Value.Elements b)) = members.empty
set_in (Some (Value.Hash b)) = members.empty

abbrev pub set_at : Keyspace → Bytes → Members
set_at K key = set_in (held K key)
