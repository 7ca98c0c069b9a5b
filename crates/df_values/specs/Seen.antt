-- What a value is in the keyspace: all of it but its spare room.
use Rattle.std.specs.Prelude.{Option, Some, None}
use Rattle.df_model.specs.Values as plain
use Rattle.df_model.specs.declared.command.Kind.{Kind}
use Rattle.df_model.specs.declared.command.Kind.TheVariants as kinds
use Rattle.df_values.specs.declared.value.Value.{Value}
use Rattle.df_values.specs.declared.value.Value.TheVariants.{Str, List, Hash, Set}

abbrev pub seen : Value → plain.Value
seen (Str text) = plain.Value.Str text.items
seen (List list) = plain.Value.Elements list.items
seen (Hash hash) = plain.Value.Hash hash.fields
seen (Set set) = plain.Value.Set set.members

abbrev pub seen_held : Option Value → Option plain.Value
seen_held None = None
seen_held (Some value) = Some (seen value)

abbrev pub kind_of : plain.Value → Kind
kind_of (plain.Value.Str bytes) = kinds.Str
kind_of (plain.Value.Elements elements) = kinds.List
kind_of (plain.Value.Hash fields) = kinds.Hash
kind_of (plain.Value.Set members) = kinds.Set
