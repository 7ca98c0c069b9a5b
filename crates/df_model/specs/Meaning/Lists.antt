-- Commands on lists, a row each: from the elements ([] where the key is missing) to the reply and what becomes of the key.
use Rattle.std.specs.Prelude.{ℕ, zero, suc, ◌-◌, if◌then◌else◌, Option, Some, None, List, [], ◌∷◌, ◌++◌, reverse, length, take, drop, slice_get, slice_set, ℤ, pos, negsuc, nat_abs}
use Rattle.std.specs.List.{filter}
use Rattle.std.specs.Prelude.{not}
use Rattle.df_model.specs.Values.{Bytes, Value}
use Rattle.df_model.specs.Outcomes.{Change, Outcome, ok, count, bulk_or_null, bulks, refused}
use Rattle.df_model.specs.Words.{same}
use Rattle.df_model.specs.Keyspace.{Keyspace, held}
use Rattle.df_model.specs.Access.{Meaning, with_change}
use Rattle.df_model.specs.Ranges.{place, ranged}
use Rattle.df_model.specs.declared.command.Beside.{Beside}
use Rattle.df_model.specs.declared.command.Beside.TheVariants.{Before, After}
use Rattle.df_model.specs.declared.command.Side.{Side}
use Rattle.df_model.specs.declared.command.Side.TheVariants.{Left, Right}
use Rattle.df_model.specs.declared.reply.ErrorText.TheVariants as errors
use Rattle.df_model.specs.declared.reply.Reply.{Reply}
use Rattle.df_model.specs.declared.reply.Reply.TheVariants.{Int, Error, Bulk, NullBulk, NullArray}

-- a list that loses its last element is removed
abbrev pub stored : List Bytes → Change
stored [] = Change.Delete
stored (x ∷ xs) = Change.Put (Value.Elements (x ∷ xs))

-- rows on what the key holds, where that is a list or nothing
abbrev pub looks : (List Bytes → Reply) → Option Value → Reply
looks row None = row []
looks row (Some (Value.Elements xs)) = row xs
looks row (Some (Value.Str b)) = Error errors.WrongKind
looks row (Some (Value.Hash m)) = Error errors.WrongKind
looks row (Some (Value.Set s)) = Error errors.WrongKind

abbrev pub changes : (List Bytes → Outcome) → Option Value → Outcome
changes row None = row []
changes row (Some (Value.Elements xs)) = row xs
changes row (Some (Value.Str b)) = refused errors.WrongKind
changes row (Some (Value.Hash m)) = refused errors.WrongKind
changes row (Some (Value.Set s)) = refused errors.WrongKind

abbrev pub lpush : List Bytes → List Bytes → Outcome
lpush vs xs = (count (length (reverse vs ++ xs)), stored (reverse vs ++ xs))

abbrev pub rpush : List Bytes → List Bytes → Outcome
rpush vs xs = (count (length (xs ++ vs)), stored (xs ++ vs))

abbrev pub lpushx : List Bytes → List Bytes → Outcome
lpushx vs [] = (count 0, Change.Keep)
lpushx vs (x ∷ xs) = lpush vs (x ∷ xs)

abbrev pub rpushx : List Bytes → List Bytes → Outcome
rpushx vs [] = (count 0, Change.Keep)
rpushx vs (x ∷ xs) = rpush vs (x ∷ xs)

abbrev pub lpop : Option ℤ → List Bytes → Outcome
lpop None [] = (NullBulk, Change.Keep)
lpop None (x ∷ xs) = (Bulk x, stored xs)
lpop (Some n) [] = (NullArray, Change.Keep)
lpop (Some n) (x ∷ xs) = (bulks (take (nat_abs n) (x ∷ xs)), stored (drop (nat_abs n) (x ∷ xs)))

-- the same on the list from its end
abbrev turned : Change → Change
turned (Change.Put (Value.Elements xs)) = Change.Put (Value.Elements (reverse xs))
turned (Change.Put (Value.Str b)) = Change.Keep
turned (Change.Put (Value.Hash b)) = Change.Keep
turned (Change.Put (Value.Set b)) = Change.Keep
turned Change.Keep = Change.Keep
turned Change.Delete = Change.Delete

abbrev pub rpop : Option ℤ → List Bytes → Outcome
rpop n xs = ((lpop n (reverse xs)).0, turned (lpop n (reverse xs)).1)

abbrev pub llen : List Bytes → Reply
llen xs = count (length xs)

abbrev pub lrange : ℤ → ℤ → List Bytes → Reply
lrange from to xs = bulks (ranged from to xs)

abbrev element : List Bytes → Option ℕ → Reply
element xs None = NullBulk
element xs (Some i) = bulk_or_null (slice_get xs i)

abbrev pub lindex : ℤ → List Bytes → Reply
lindex i xs = element xs (place i (length xs))

abbrev set_at : Bytes → List Bytes → Option ℕ → Outcome
set_at v xs None = refused errors.IndexRange
set_at v xs (Some i) = (ok, stored (slice_set xs i v))

abbrev pub lset : ℤ → Bytes → List Bytes → Outcome
lset i v [] = refused errors.NoSuchKey
lset i v (x ∷ xs) = set_at v (x ∷ xs) (place i (length (x ∷ xs)))

-- v on the side of p that is meant, and what follows p
abbrev pair : Beside → Bytes → Bytes → List Bytes → List Bytes
pair Before p v xs = v ∷ p ∷ xs
pair After p v xs = p ∷ v ∷ xs

-- v beside the first p, if there is one
abbrev pub inserted : Beside → Bytes → Bytes → List Bytes → Option (List Bytes)
inserted at p v [] = None
inserted at p v (x ∷ xs) = if same x p then Some (pair at x v xs) else after x (inserted at p v xs)
  where
    after : Bytes → Option (List Bytes) → Option (List Bytes)
    after x None = None
    after x (Some ys) = Some (x ∷ ys)

abbrev put_beside : Option (List Bytes) → Outcome
put_beside None = (Int (negsuc 0), Change.Keep)
put_beside (Some xs) = (count (length xs), stored xs)

abbrev pub linsert : Beside → Bytes → Bytes → List Bytes → Outcome
linsert at p v [] = (count 0, Change.Keep)
linsert at p v (x ∷ xs) = put_beside (inserted at p v (x ∷ xs))

-- the list without its first n elements v
abbrev pub without_first : ℕ → Bytes → List Bytes → List Bytes
without_first zero v xs = xs
without_first (suc n) v [] = []
without_first (suc n) v (x ∷ xs) = if same x v then without_first n v xs else x ∷ without_first (suc n) v xs

abbrev pub without : ℤ → Bytes → List Bytes → List Bytes
without (pos zero) v xs = filter (λ x. not (same x v)) xs
without (pos (suc n)) v xs = without_first (suc n) v xs
without (negsuc n) v xs = reverse (without_first (suc n) v (reverse xs))

abbrev pub lrem : ℤ → Bytes → List Bytes → Outcome
lrem n v xs = (count (length xs - length (without n v xs)), stored (without n v xs))

abbrev pub ltrim : ℤ → ℤ → List Bytes → Outcome
ltrim from to xs = (ok, stored (ranged from to xs))

-- ---- rows of two keys, on the keyspace of these keys alone

-- an element leaves a list at one end, and goes to a list at one end
abbrev pub taken : Side → List Bytes → List Bytes
taken Left xs = xs
taken Right xs = reverse xs

abbrev pub given : Side → Bytes → List Bytes → List Bytes
given Left x xs = x ∷ xs
given Right x xs = xs ++ x ∷ []

abbrev pub elements : Option Value → Option (List Bytes)
elements None = Some []
elements (Some (Value.Elements xs)) = Some xs
elements (Some (Value.Str b)) = None
elements (Some (Value.Hash b)) = None
elements (Some (Value.Set b)) = None

abbrev pub received : Bytes → Side → Bytes → Keyspace → Keyspace → Option (List Bytes) → Meaning
received d to x old K None = (Error errors.WrongKind, old)
received d to x old K (Some ys) = (Bulk x, with_change d (stored (given to x ys)) K)

-- d is looked at once the element has left s, so that s = d turns the list
abbrev pub leaves : Bytes → Bytes → Side → Side → Keyspace → List Bytes → Meaning
leaves s d from to K [] = (NullBulk, K)
leaves s d from to K (x ∷ rest) =
    let left = with_change s (stored (taken from rest)) K in
    received d to x K left (elements (held left d))

abbrev pub sent : Bytes → Bytes → Side → Side → Keyspace → Option (List Bytes) → Meaning
sent s d from to K None = (Error errors.WrongKind, K)
sent s d from to K (Some xs) = leaves s d from to K (taken from xs)

abbrev pub lmove : Bytes → Bytes → Side → Side → Keyspace → Meaning
lmove s d from to K = sent s d from to K (elements (held K s))

abbrev pub rpoplpush : Bytes → Bytes → Keyspace → Meaning
rpoplpush s d K = lmove s d Right Left K
