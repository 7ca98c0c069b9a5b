-- Commands on strings, a row each: from what the key holds to the reply and what becomes of the key.
use Rattle.std.specs.Prelude.{ℕ, ◌+◌, ◌-◌, ◌||◌, nat_lt, if◌then◌else◌, Bool, false, Option, Some, None, is_some, List, [], ◌∷◌, ◌++◌, map, length, take, drop, replicate, ℤ, pos, negsuc, nat_abs, ◌+ℤ◌, neg_ℤ}
use Rattle.std.specs.Fmt.{signed_decimal}
use Rattle.std.specs.FinMap as fin
use Rattle.df_model.specs.Values.{Bytes, Value}
use Rattle.df_model.specs.Keyspace.{Keyspace, held}
use Rattle.df_model.specs.Numbers.{counter, fits}
use Rattle.df_model.specs.Ranges.{ranged}
use Rattle.df_model.specs.Outcomes.{Outcome, Change, ok, count, bulk_or_null, array, refused}
use Rattle.df_model.specs.Access.{Meaning}
use Rattle.df_model.specs.declared.command.Guard.{Guard}
use Rattle.df_model.specs.declared.command.Guard.TheVariants.{Always, Nx, Xx}
use Rattle.df_model.specs.declared.reply.ErrorText.TheVariants as errors
use Rattle.df_model.specs.declared.reply.Reply.{Reply}
use Rattle.df_model.specs.declared.reply.Reply.TheVariants.{Error, Int, Bulk, NullBulk}

-- bytes of a stored string
abbrev pub MAX_STRING : ℕ
MAX_STRING = 536870912

abbrev stored : Bytes → Change
stored bytes = Change.Put (Value.Str bytes)

-- rows on what the key holds, where that is a string or nothing
abbrev pub looks : (Option Bytes → Reply) → Option Value → Reply
looks row None = row None
looks row (Some (Value.Str bytes)) = row (Some bytes)
looks row (Some (Value.Elements elements)) = Error errors.WrongKind
looks row (Some (Value.Hash fields)) = Error errors.WrongKind
looks row (Some (Value.Set members)) = Error errors.WrongKind

abbrev pub changes : (Option Bytes → Outcome) → Option Value → Outcome
changes row None = row None
changes row (Some (Value.Str bytes)) = row (Some bytes)
changes row (Some (Value.Elements elements)) = refused errors.WrongKind
changes row (Some (Value.Hash fields)) = refused errors.WrongKind
changes row (Some (Value.Set members)) = refused errors.WrongKind

-- a missing key counts as the empty string
abbrev pub bytes_of : Option Bytes → Bytes
bytes_of None = []
bytes_of (Some bytes) = bytes

-- ---- get, set and their kin

abbrev pub get : Option Bytes → Reply
get = bulk_or_null

-- whatever the key held, of whatever kind, is replaced
abbrev pub set : Bytes → Guard → Option Value → Outcome
set bytes Always held = (ok, stored bytes)
set bytes Nx None = (ok, stored bytes)
set bytes Nx (Some value) = (NullBulk, Change.Keep)
set bytes Xx None = (NullBulk, Change.Keep)
set bytes Xx (Some value) = (ok, stored bytes)

abbrev pub setnx : Bytes → Option Value → Outcome
setnx bytes None = (count 1, stored bytes)
setnx bytes (Some value) = (count 0, Change.Keep)

abbrev pub getset : Bytes → Option Bytes → Outcome
getset bytes old = (bulk_or_null old, stored bytes)

abbrev pub getdel : Option Bytes → Outcome
getdel old = (bulk_or_null old, Change.Delete)

-- ---- parts of a string

-- a string that would be too long is refused
abbrev pub lengthened : Bytes → Outcome
lengthened bytes = if nat_lt MAX_STRING (length bytes) then refused errors.TooLong else (count (length bytes), stored bytes)

abbrev pub append : Bytes → Option Bytes → Outcome
append more old = lengthened (bytes_of old ++ more)

abbrev pub strlen : Option Bytes → Reply
strlen old = count (length (bytes_of old))

abbrev pub getrange : ℤ → ℤ → Option Bytes → Reply
getrange from to old = Bulk (ranged from to (bytes_of old))

-- zero bytes fill up to the place, and the new bytes are written over what stands there
abbrev pub overwritten : ℕ → Bytes → Bytes → Bytes
overwritten at new old = take at (old ++ replicate (at - length old) 0) ++ new ++ drop (at + length new) old

-- nothing to write leaves the key, also a missing one
abbrev pub setrange : ℤ → Bytes → Option Bytes → Outcome
setrange at [] old = (count (length (bytes_of old)), Change.Keep)
setrange at (b ∷ bytes) old =
    if nat_lt MAX_STRING (nat_abs at + length (b ∷ bytes)) then refused errors.TooLong
    else (count (length (overwritten (nat_abs at) (b ∷ bytes) (bytes_of old))), stored (overwritten (nat_abs at) (b ∷ bytes) (bytes_of old)))

-- ---- counters

abbrev pub summed : ℤ → Outcome
summed n = if fits n then (Int n, stored (signed_decimal n)) else refused errors.Overflow

abbrev pub raised : ℤ → Option ℤ → Outcome
raised by None = refused errors.NotInteger
raised by (Some n) = summed (n +ℤ by)

abbrev pub incrby : ℤ → Option Bytes → Outcome
incrby by old = raised by (counter old)

-- the least number has no opposite: to take it off is refused, whatever the key counts
abbrev pub lowered : ℤ → Option ℤ → Outcome
lowered by None = refused errors.NotInteger
lowered by (Some n) = if fits (neg_ℤ by) then summed (n +ℤ neg_ℤ by) else refused errors.Overflow

abbrev pub decrby : ℤ → Option Bytes → Outcome
decrby by old = lowered by (counter old)

abbrev pub incr : Option Bytes → Outcome
incr = incrby (pos 1)

abbrev pub decr : Option Bytes → Outcome
decr = incrby (negsuc 0)

-- ---- rows of several keys, on the keyspace of these keys alone

-- another kind of value is no string, and no error
abbrev pub string_or_null : Option Value → Reply
string_or_null None = NullBulk
string_or_null (Some (Value.Str bytes)) = Bulk bytes
string_or_null (Some (Value.Elements elements)) = NullBulk
string_or_null (Some (Value.Hash fields)) = NullBulk
string_or_null (Some (Value.Set members)) = NullBulk

abbrev pub mget : List Bytes → Keyspace → Reply
mget ks K = array (map (λ k. string_or_null (held K k)) ks)

-- pairs are put in order, so that the last one of a repeated key stays
abbrev pub with_strings : List (Bytes × Bytes) → Keyspace → Keyspace
with_strings [] K = K
with_strings (pair ∷ pairs) K = with_strings pairs (fin.insert K pair.0 (Value.Str pair.1))

abbrev pub mset : List (Bytes × Bytes) → Keyspace → Meaning
mset pairs K = (ok, with_strings pairs K)

abbrev pub any_held : Keyspace → List (Bytes × Bytes) → Bool
any_held K [] = false
any_held K (pair ∷ pairs) = is_some (held K pair.0) || any_held K pairs

-- all or nothing
abbrev pub msetnx : List (Bytes × Bytes) → Keyspace → Meaning
msetnx pairs K = if any_held K pairs then (count 0, K) else (count 1, with_strings pairs K)
