-- Commands on sets, a row each: from the members (none where the key is missing) to the reply and what becomes of the key.
use Rattle.std.specs.Prelude.{◌-◌, ◌==◌, if◌then◌else◌, Option, Some, None, List, [], ◌∷◌, map}
use Rattle.df_model.specs.Members as members
use Rattle.df_model.specs.Values.{Bytes, Value, Members}
use Rattle.df_model.specs.Words.{same}
use Rattle.df_model.specs.Keyspace.{Keyspace, held}
use Rattle.df_model.specs.Access.{Meaning, with_change}
use Rattle.df_model.specs.Outcomes.{Change, Outcome, count, array, bulks, refused}
use Rattle.df_model.specs.declared.reply.ErrorText.TheVariants as errors
use Rattle.df_model.specs.declared.reply.Reply.{Reply}
use Rattle.df_model.specs.declared.reply.Reply.TheVariants.{Error}

-- a set that loses its last member is removed
abbrev pub stored : Members → Change
stored s = if members.len s == 0 then Change.Delete else Change.Put (Value.Set s)

abbrev pub looks : (Members → Reply) → Option Value → Reply
looks row None = row members.empty
looks row (Some (Value.Set s)) = row s
looks row (Some (Value.Str b)) = Error errors.WrongKind
looks row (Some (Value.Elements b)) = Error errors.WrongKind
looks row (Some (Value.Hash b)) = Error errors.WrongKind

abbrev pub changes : (Members → Outcome) → Option Value → Outcome
changes row None = row members.empty
changes row (Some (Value.Set s)) = row s
changes row (Some (Value.Str b)) = refused errors.WrongKind
changes row (Some (Value.Elements b)) = refused errors.WrongKind
changes row (Some (Value.Hash b)) = refused errors.WrongKind

abbrev pub with_members : List Bytes → Members → Members
with_members [] s = s
with_members (m ∷ ms) s = with_members ms (members.insert s m)

abbrev pub without_members : List Bytes → Members → Members
without_members [] s = s
without_members (m ∷ ms) s = without_members ms (members.remove s m)

abbrev pub sadd : List Bytes → Members → Outcome
sadd ms s = (count (members.len (with_members ms s) - members.len s), stored (with_members ms s))

abbrev pub srem : List Bytes → Members → Outcome
srem ms s = (count (members.len s - members.len (without_members ms s)), stored (without_members ms s))

abbrev pub scard : Members → Reply
scard s = count (members.len s)

abbrev has : Members → Bytes → Reply
has s m = count (if members.contains s m then 1 else 0)

abbrev pub sismember : Bytes → Members → Reply
sismember m s = has s m

abbrev pub smismember : List Bytes → Members → Reply
smismember ms s = array (map (has s) ms)

abbrev pub smembers : Members → Reply
smembers s = bulks (members.items s)

-- ---- rows of several keys, on the keyspace of these keys alone

abbrev pub members_of : Option Value → Option Members
members_of None = Some members.empty
members_of (Some (Value.Set s)) = Some s
members_of (Some (Value.Str b)) = None
members_of (Some (Value.Elements b)) = None
members_of (Some (Value.Hash b)) = None

abbrev pub joined : Bytes → Bytes → Bytes → Keyspace → Members → Option Members → Meaning
joined s d m K from None = (Error errors.WrongKind, K)
joined s d m K from (Some to) =
    if members.contains from m
    then (count 1, if same s d then K else with_change d (stored (members.insert to m)) (with_change s (stored (members.remove from m)) K))
    else (count 0, K)

abbrev pub left : Bytes → Bytes → Bytes → Keyspace → Option Value → Meaning
left s d m K None = (count 0, K)
left s d m K (Some (Value.Set from)) = joined s d m K from (members_of (held K d))
left s d m K (Some (Value.Str b)) = (Error errors.WrongKind, K)
left s d m K (Some (Value.Elements b)) = (Error errors.WrongKind, K)
left s d m K (Some (Value.Hash b)) = (Error errors.WrongKind, K)

abbrev pub smove : Bytes → Bytes → Bytes → Keyspace → Meaning
smove s d m K = left s d m K (held K s)

abbrev pub with_set : Option Members → Option (List Members) → Option (List Members)
with_set None more = None
with_set (Some s) None = None
with_set (Some s) (Some more) = Some (s ∷ more)

-- the sets that the keys hold, or nothing where one holds another kind
abbrev pub sets_of : Keyspace → List Bytes → Option (List Members)
sets_of K [] = Some []
sets_of K (k ∷ ks) = with_set (members_of (held K k)) (sets_of K ks)

abbrev pub inter : List Members → Members
inter [] = members.empty
inter (s ∷ []) = s
inter (s ∷ t ∷ more) = members.intersection s (inter (t ∷ more))

abbrev pub union : List Members → Members
union [] = members.empty
union (s ∷ more) = members.union s (union more)

abbrev pub diff : List Members → Members
diff [] = members.empty
diff (s ∷ more) = members.difference s (union more)

abbrev pub answered : Option Members → Reply
answered None = Error errors.WrongKind
answered (Some s) = bulks (members.items s)

abbrev pub over : (List Members → Members) → Option (List Members) → Option Members
over combine None = None
over combine (Some ss) = Some (combine ss)

abbrev pub combined : (List Members → Members) → List Bytes → Keyspace → Reply
combined combine ks K = answered (over combine (sets_of K ks))

abbrev pub kept : Bytes → Keyspace → Option Members → Meaning
kept d K None = (Error errors.WrongKind, K)
kept d K (Some s) = (count (members.len s), with_change d (stored s) K)

abbrev pub store : (List Members → Members) → Bytes → List Bytes → Keyspace → Meaning
store combine d ks K = kept d K (over combine (sets_of K ks))
