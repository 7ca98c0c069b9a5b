-- Commands on hashes, a row each: from the fields (none where the key is missing) to the reply and what becomes of the key.
use Rattle.std.specs.Prelude.{ℕ, ◌-◌, ◌==◌, if◌then◌else◌, Option, Some, None, List, [], ◌∷◌, map, length, ℤ, ◌+ℤ◌}
use Rattle.std.specs.List.{flat_map}
use Rattle.std.specs.FinMap as fields
use Rattle.std.specs.Fmt.{signed_decimal}
use Rattle.df_model.specs.Values.{Bytes, Value, Fields}
use Rattle.df_model.specs.Outcomes.{Change, Outcome, ok, count, bulk_or_null, array, bulks, refused}
use Rattle.df_model.specs.Numbers.{counter, fits}
use Rattle.df_model.specs.declared.reply.ErrorText.TheVariants as errors
use Rattle.df_model.specs.declared.reply.Reply.{Reply}
use Rattle.df_model.specs.declared.reply.Reply.TheVariants.{Int, Error}

-- a hash that loses its last field is removed
abbrev pub stored : Fields → Change
stored m = if fields.len m == 0 then Change.Delete else Change.Put (Value.Hash m)

abbrev pub looks : (Fields → Reply) → Option Value → Reply
looks row None = row fields.empty
looks row (Some (Value.Hash m)) = row m
looks row (Some (Value.Str b)) = Error errors.WrongKind
looks row (Some (Value.Elements b)) = Error errors.WrongKind
looks row (Some (Value.Set b)) = Error errors.WrongKind

abbrev pub changes : (Fields → Outcome) → Option Value → Outcome
changes row None = row fields.empty
changes row (Some (Value.Hash m)) = row m
changes row (Some (Value.Str b)) = refused errors.WrongKind
changes row (Some (Value.Elements b)) = refused errors.WrongKind
changes row (Some (Value.Set b)) = refused errors.WrongKind

-- the fields with these put, in order
abbrev pub with_fields : List (Bytes × Bytes) → Fields → Fields
with_fields [] m = m
with_fields (p ∷ ps) m = with_fields ps (fields.insert m p.0 p.1)

abbrev pub without_fields : List Bytes → Fields → Fields
without_fields [] m = m
without_fields (f ∷ fs) m = without_fields fs (fields.remove m f)

abbrev pub hset : List (Bytes × Bytes) → Fields → Outcome
hset pairs m = (count (fields.len (with_fields pairs m) - fields.len m), stored (with_fields pairs m))

abbrev pub hmset : List (Bytes × Bytes) → Fields → Outcome
hmset pairs m = (ok, stored (with_fields pairs m))

abbrev pub hsetnx : Bytes → Bytes → Fields → Outcome
hsetnx f v m = if fields.contains_key m f then (count 0, Change.Keep) else (count 1, stored (fields.insert m f v))

abbrev pub hget : Bytes → Fields → Reply
hget f m = bulk_or_null (fields.get m f)

abbrev pub hmget : List Bytes → Fields → Reply
hmget fs m = array (map (λ f. bulk_or_null (fields.get m f)) fs)

abbrev pub hdel : List Bytes → Fields → Outcome
hdel fs m = (count (fields.len m - fields.len (without_fields fs m)), stored (without_fields fs m))

abbrev pub hlen : Fields → Reply
hlen m = count (fields.len m)

abbrev pub hexists : Bytes → Fields → Reply
hexists f m = count (if fields.contains_key m f then 1 else 0)

abbrev length_of : Option Bytes → ℕ
length_of None = 0
length_of (Some b) = length b

abbrev pub hstrlen : Bytes → Fields → Reply
hstrlen f m = count (length_of (fields.get m f))

abbrev pub hkeys : Fields → Reply
hkeys m = bulks (fields.keys m)

abbrev pub hvals : Fields → Reply
hvals m = bulks (fields.values m)

abbrev pub hgetall : Fields → Reply
hgetall m = bulks (flat_map (λ e. e.0 ∷ e.1 ∷ []) (fields.entries m))

-- the number in a field is raised; a missing field counts as 0
abbrev pub raised_field : Bytes → ℤ → Fields → Option ℤ → Outcome
raised_field f n m None = refused errors.HashNotInteger
raised_field f n m (Some z) = if fits (z +ℤ n) then (Int (z +ℤ n), stored (fields.insert m f (signed_decimal (z +ℤ n)))) else refused errors.Overflow

abbrev pub hincrby : Bytes → ℤ → Fields → Outcome
hincrby f n m = raised_field f n m (counter (fields.get m f))
