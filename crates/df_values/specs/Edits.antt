-- What an edit makes of a value, when it may be applied, and what a change makes of a key.
use Rattle.std.specs.Prelude.{◌≢◌, ◌+◌, ◌-◌, ◌<◌, ◌≤◌, List, ◌++◌, reverse, take, drop, length, slice_set, Option, Some, None}
use Rattle.std.specs.List.{insert}
use Rattle.df_model.specs.Values.{Bytes}
use Rattle.df_model.specs.Values as plain
use Rattle.df_model.specs.Ranges.{ranged}
use Rattle.df_model.specs.Meaning.Strings.{overwritten}
use Rattle.df_model.specs.Meaning.Lists.{without}
use Rattle.df_model.specs.Meaning.Hashes.{with_fields, without_fields}
use Rattle.df_model.specs.Meaning.Sets.{with_members, without_members}
use Rattle.df_values.specs.declared.value.Value.{Value}
use Rattle.df_values.specs.declared.value.Value.TheVariants as values
use Rattle.df_values.specs.declared.edit.Edit.{Edit}
use Rattle.df_values.specs.declared.edit.Edit.TheVariants.{Append, WriteAt, PushFront, PushBack, PopFront, PopBack, SetAt, InsertAt, RemoveEqual, Trim, PutFields, DropFields, AddMembers, DropMembers}
use Rattle.df_values.specs.declared.change.Change.{Change}
use Rattle.df_values.specs.declared.change.Change.TheVariants as changes
use Rattle.df_values.specs.Seen.{seen}

-- the bytes of a string; an edit of another kind leaves them (so in all four: no _ arm, each edit has its line)
abbrev on_string : Edit → Bytes → Bytes
on_string (Append more) bytes = bytes ++ more
on_string (WriteAt at new) bytes = overwritten at new bytes
on_string (PushFront words) bytes = bytes
on_string (PushBack words) bytes = bytes
on_string (PopFront n) bytes = bytes
on_string (PopBack n) bytes = bytes
on_string (SetAt at element) bytes = bytes
on_string (InsertAt at element) bytes = bytes
on_string (RemoveEqual element n) bytes = bytes
on_string (Trim from to) bytes = bytes
on_string (PutFields pairs) bytes = bytes
on_string (DropFields words) bytes = bytes
on_string (AddMembers words) bytes = bytes
on_string (DropMembers words) bytes = bytes

abbrev on_list : Edit → List Bytes → List Bytes
on_list (PushFront words) elements = reverse words.items ++ elements
on_list (PushBack words) elements = elements ++ words.items
on_list (PopFront n) elements = drop n elements
on_list (PopBack n) elements = take (length elements - n) elements
on_list (SetAt at element) elements = slice_set elements at element
on_list (InsertAt at element) elements = insert elements at element
on_list (RemoveEqual element n) elements = without n element elements
on_list (Trim from to) elements = ranged from to elements
on_list (Append more) elements = elements
on_list (WriteAt at new) elements = elements
on_list (PutFields pairs) elements = elements
on_list (DropFields words) elements = elements
on_list (AddMembers words) elements = elements
on_list (DropMembers words) elements = elements

abbrev on_hash : Edit → plain.Fields → plain.Fields
on_hash (PutFields pairs) fields = with_fields pairs.items fields
on_hash (DropFields words) fields = without_fields words.items fields
on_hash (Append more) fields = fields
on_hash (WriteAt at new) fields = fields
on_hash (PushFront words) fields = fields
on_hash (PushBack words) fields = fields
on_hash (PopFront n) fields = fields
on_hash (PopBack n) fields = fields
on_hash (SetAt at element) fields = fields
on_hash (InsertAt at element) fields = fields
on_hash (RemoveEqual element n) fields = fields
on_hash (Trim from to) fields = fields
on_hash (AddMembers words) fields = fields
on_hash (DropMembers words) fields = fields

abbrev on_set : Edit → plain.Members → plain.Members
on_set (AddMembers words) members = with_members words.items members
on_set (DropMembers words) members = without_members words.items members
on_set (Append more) members = members
on_set (WriteAt at new) members = members
on_set (PushFront words) members = members
on_set (PushBack words) members = members
on_set (PopFront n) members = members
on_set (PopBack n) members = members
on_set (SetAt at element) members = members
on_set (InsertAt at element) members = members
on_set (RemoveEqual element n) members = members
on_set (Trim from to) members = members
on_set (PutFields pairs) members = members
on_set (DropFields words) members = members

abbrev pub edited : Edit → plain.Value → plain.Value
edited edit (plain.Value.Str bytes) = plain.Value.Str (on_string edit bytes)
edited edit (plain.Value.Elements elements) = plain.Value.Elements (on_list edit elements)
edited edit (plain.Value.Hash fields) = plain.Value.Hash (on_hash edit fields)
edited edit (plain.Value.Set members) = plain.Value.Set (on_set edit members)

-- the value is of the edit's kind, the places are in range, and there is room for what is added
abbrev pub IsPreparedOn : Edit → Value → Type 0
IsPreparedOn (Append more) (values.Str text) = length more ≤ text.spare
IsPreparedOn (WriteAt at new) (values.Str text) = at + length new ≤ length text.items + text.spare
IsPreparedOn (PushFront words) (values.List list) = length words.items ≤ list.spare
IsPreparedOn (PushBack words) (values.List list) = length words.items ≤ list.spare
IsPreparedOn (PopFront n) (values.List list) = Unit {0}
IsPreparedOn (PopBack n) (values.List list) = Unit {0}
IsPreparedOn (SetAt at element) (values.List list) = at < length list.items
IsPreparedOn (InsertAt at element) (values.List list) = (at ≤ length list.items) × (0 < list.spare)
IsPreparedOn (RemoveEqual element n) (values.List list) = Unit {0}
IsPreparedOn (Trim from to) (values.List list) = Unit {0}
IsPreparedOn (PutFields pairs) (values.Hash hash) = length pairs.items ≤ hash.spare
IsPreparedOn (DropFields words) (values.Hash hash) = Unit {0}
IsPreparedOn (AddMembers words) (values.Set set) = length words.items ≤ set.spare
IsPreparedOn (DropMembers words) (values.Set set) = Unit {0}
IsPreparedOn edit value = ⊥

-- what the key holds once the change was made
abbrev pub applied : Change → Option plain.Value → Option plain.Value
applied changes.Keep held = held
applied (changes.Put value) held = Some (seen value)
applied changes.Delete held = None
applied (changes.Edit edit) None = None
applied (changes.Edit edit) (Some value) = Some (edited edit value)

-- the change may be made where the key holds this
abbrev pub Fits : Change → Option Value → Type 0
Fits changes.Keep held = Unit {0}
Fits (changes.Put value) held = Unit {0}
Fits changes.Delete held = Unit {0}
Fits (changes.Edit edit) None = ⊥
Fits (changes.Edit edit) (Some value) = IsPreparedOn edit value

-- An edit alters what the key holds, and a removal finds something there. A put may put what the key holds already
-- only where a string replaces a string.
abbrev pub Alters : Change → Option plain.Value → Type 0
Alters changes.Keep held = Unit {0}
Alters (changes.Put value) None = Unit {0}
Alters (changes.Put (values.Str text)) (Some (plain.Value.Str bytes)) = Unit {0}
Alters (changes.Put value) (Some held) = seen value ≢ held
Alters changes.Delete held = held ≢ None
Alters (changes.Edit edit) held = applied (changes.Edit edit) held ≢ held
