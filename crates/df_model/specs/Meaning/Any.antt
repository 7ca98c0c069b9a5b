-- Commands on keys of any kind of value, a row each.
use Rattle.std.specs.Prelude.{ℕ, ◌+◌, ◌-◌, if◌then◌else◌, Option, Some, None, is_some, List, [], ◌∷◌, codes}
use Rattle.std.specs.FinMap as map
use Rattle.df_model.specs.Values.{Bytes, Value}
use Rattle.df_model.specs.Keyspace.{Keyspace, held}
use Rattle.df_model.specs.Outcomes.{ok, count}
use Rattle.df_model.specs.Access.{Meaning}
use Rattle.df_model.specs.declared.reply.ErrorText.TheVariants.{NoSuchKey}
use Rattle.df_model.specs.declared.reply.Reply.{Reply}
use Rattle.df_model.specs.declared.reply.Reply.TheVariants.{Simple, Error}

-- TYPE
abbrev pub kind_of : Option Value → Reply
kind_of None = Simple (codes "none")
kind_of (Some (Value.Str bytes)) = Simple (codes "string")
kind_of (Some (Value.Elements elements)) = Simple (codes "list")
kind_of (Some (Value.Hash fields)) = Simple (codes "hash")
kind_of (Some (Value.Set members)) = Simple (codes "set")

-- ---- rows of several keys, on the keyspace of these keys alone

abbrev pub without_keys : List Bytes → Keyspace → Keyspace
without_keys [] K = K
without_keys (k ∷ ks) K = without_keys ks (map.remove K k)

-- DEL and UNLINK
abbrev pub del : List Bytes → Keyspace → Meaning
del ks K = (count (map.len K - map.len (without_keys ks K)), without_keys ks K)

-- a repeated key counts again
abbrev pub present : Keyspace → List Bytes → ℕ
present K [] = 0
present K (k ∷ ks) = (if is_some (held K k) then 1 else 0) + present K ks

abbrev pub exists : List Bytes → Keyspace → Reply
exists ks K = count (present K ks)

-- d holds what s held, whatever d held, and s is gone; onto itself a key stays
abbrev pub moved : Bytes → Bytes → Reply → Option Value → Keyspace → Meaning
moved s d reply None K = (Error NoSuchKey, K)
moved s d reply (Some value) K = (reply, map.insert (map.remove K s) d value)

abbrev pub rename : Bytes → Bytes → Keyspace → Meaning
rename s d K = moved s d ok (held K s) K

abbrev pub moved_unless : Bytes → Bytes → Option Value → Option Value → Keyspace → Meaning
moved_unless s d None there K = (Error NoSuchKey, K)
moved_unless s d (Some value) None K = moved s d (count 1) (Some value) K
moved_unless s d (Some value) (Some other) K = (count 0, K)

abbrev pub renamenx : Bytes → Bytes → Keyspace → Meaning
renamenx s d K = moved_unless s d (held K s) (held K d) K
