-- Rows of several keys keep the limits of the keyspace that they run on.
use Rattle.std.proofs.Common.{◌≡◌, Bool, true, false, List, [], ◌∷◌, refl}
use Rattle.std.specs.Prelude.{Option, Some, None}
use Rattle.std.specs.List.{AllByRecursion}
use Rattle.std.specs.FinMap as map
use Rattle.df_model.specs.Values.{Bytes, Value, Members}
use Rattle.df_model.specs.Keyspace.{Keyspace, held}
use Rattle.df_model.specs.Words.{same}
use Rattle.df_model.specs.Framing.{IsWord}
use Rattle.df_model.specs.Calls.{both_of}
use Rattle.df_model.specs.Outcomes.{Change, ok}
use Rattle.df_model.specs.Access.{with_change}
use Rattle.df_model.specs.Members as members
use Rattle.df_model.specs.Meaning.Any as any
use Rattle.df_model.specs.Meaning.Strings as strings
use Rattle.df_model.specs.Meaning.Lists as lists
use Rattle.df_model.specs.Meaning.Sets as sets
use Rattle.df_model.specs.declared.command.Side.{Side}
use Rattle.df_model.specs.declared.command.Side.TheVariants.{Left, Right}
use Rattle.df_model.specs.declared.reply.Reply.{Reply}
use Rattle.df_limits.specs.Limits.{KeepsLimits}
use Rattle.df_limits.proofs.EachLaws.{each_insert, each_remove}
use Rattle.df_limits.proofs.ListLaws.{all_append, all_reverse}
use Rattle.df_limits.proofs.RowLaws.{KeyIsWithin, HeldWithin, held_within, change_keeps, RowKeeps}
use Rattle.df_limits.proofs.ListRows as list_rows
use Rattle.df_limits.proofs.ListRows.{Words}
use Rattle.df_limits.proofs.SetRows as set_rows
use Rattle.df_limits.proofs.SetRows.{MembersWithin, AllWithin}

-- ---- DEL and UNLINK

pub without_keys_keeps : (ks : List Bytes) → (K : Keyspace) → KeepsLimits K → KeepsLimits (any.without_keys ks K)
without_keys_keeps [] K keeps = keeps
without_keys_keeps (k ∷ ks) K keeps = without_keys_keeps ks (map.remove K k) (each_remove KeyIsWithin K k keeps)

-- ---- MSET and MSETNX

pub with_strings_keeps : (pairs : List (Bytes × Bytes)) → AllByRecursion IsWord (both_of pairs) → (K : Keyspace) → KeepsLimits K → KeepsLimits (strings.with_strings pairs K)
with_strings_keeps [] all K keeps = keeps
with_strings_keeps (p ∷ ps) all K keeps =
    with_strings_keeps ps all.1.1 (map.insert K p.0 (Value.Str p.1)) (each_insert KeyIsWithin K p.0 (Value.Str p.1) (all.0, all.1.0) keeps)

pub msetnx_keeps : (pairs : List (Bytes × Bytes)) → AllByRecursion IsWord (both_of pairs) → RowKeeps (strings.msetnx pairs)
msetnx_keeps pairs all K keeps = by (strings.any_held K pairs) refl
  where
    by : (b : Bool) → strings.any_held K pairs ≡ b → KeepsLimits (strings.msetnx pairs K).1
    by true e = rw e keeps
    by false e = rw e (with_strings_keeps pairs all K keeps)

-- ---- RENAME and RENAMENX

moved_keeps : (s d : Bytes) (reply : Reply) (v : Option Value) → IsWord d → HeldWithin v → RowKeeps (any.moved s d reply v)
moved_keeps s d reply None word within K keeps = keeps
moved_keeps s d reply (Some value) word within K keeps = each_insert KeyIsWithin (map.remove K s) d value (word, within) (each_remove KeyIsWithin K s keeps)

pub rename_keeps : (s d : Bytes) → IsWord d → RowKeeps (any.rename s d)
rename_keeps s d word K keeps = moved_keeps s d ok (held K s) word (held_within K s keeps) K keeps

unless_keeps : (s d : Bytes) (v there : Option Value) → IsWord d → HeldWithin v → RowKeeps (any.moved_unless s d v there)
unless_keeps s d None there word within K keeps = keeps
unless_keeps s d (Some value) None word within K keeps = each_insert KeyIsWithin (map.remove K s) d value (word, within) (each_remove KeyIsWithin K s keeps)
unless_keeps s d (Some value) (Some other) word within K keeps = keeps

pub renamenx_keeps : (s d : Bytes) → IsWord d → RowKeeps (any.renamenx s d)
renamenx_keeps s d word K keeps = unless_keeps s d (held K s) (held K d) word (held_within K s keeps) K keeps

-- ---- LMOVE and RPOPLPUSH

abbrev ListWithin : Option (List Bytes) → Type 0
ListWithin None = Unit {0}
ListWithin (Some xs) = Words xs

elements_within : (v : Option Value) → HeldWithin v → ListWithin (lists.elements v)
elements_within None within = tt
elements_within (Some (Value.Elements xs)) within = within.1
elements_within (Some (Value.Str b)) within = tt
elements_within (Some (Value.Hash b)) within = tt
elements_within (Some (Value.Set b)) within = tt

taken_within : (side : Side) (xs : List Bytes) → Words xs → Words (lists.taken side xs)
taken_within Left xs all = all
taken_within Right xs all = all_reverse IsWord xs all

given_within : (side : Side) (x : Bytes) (xs : List Bytes) → IsWord x → Words xs → Words (lists.given side x xs)
given_within Left x xs word all = (word, all)
given_within Right x xs word all = all_append IsWord xs (x ∷ []) all (word, tt)

received_keeps : (d : Bytes) (to : Side) (x : Bytes) (old K : Keyspace) (ys : Option (List Bytes)) → IsWord d → IsWord x → ListWithin ys → KeepsLimits old → KeepsLimits K → KeepsLimits (lists.received d to x old K ys).1
received_keeps d to x old K None key word all keeps left = keeps
received_keeps d to x old K (Some ys) key word all keeps left =
    change_keeps d (lists.stored (lists.given to x ys)) K key (list_rows.stored_within (lists.given to x ys) (given_within to x ys word all)) left

leaves_keeps : (s d : Bytes) (from to : Side) (K : Keyspace) (xs : List Bytes) → IsWord s → IsWord d → Words xs → KeepsLimits K → KeepsLimits (lists.leaves s d from to K xs).1
leaves_keeps s d from to K [] one other all keeps = keeps
leaves_keeps s d from to K (x ∷ rest) one other all keeps =
    let change : Change = lists.stored (lists.taken from rest) in
    let left : KeepsLimits (with_change s change K) = change_keeps s change K one (list_rows.stored_within (lists.taken from rest) (taken_within from rest all.1)) keeps in
    received_keeps d to x K (with_change s change K) (lists.elements (held (with_change s change K) d)) other all.0
    (elements_within (held (with_change s change K) d) (held_within (with_change s change K) d left)) keeps left

sent_keeps : (s d : Bytes) (from to : Side) (K : Keyspace) (xs : Option (List Bytes)) → IsWord s → IsWord d → ListWithin xs → KeepsLimits K → KeepsLimits (lists.sent s d from to K xs).1
sent_keeps s d from to K None one other all keeps = keeps
sent_keeps s d from to K (Some xs) one other all keeps = leaves_keeps s d from to K (lists.taken from xs) one other (taken_within from xs all) keeps

pub lmove_keeps : (s d : Bytes) (from to : Side) → IsWord s → IsWord d → RowKeeps (lists.lmove s d from to)
lmove_keeps s d from to one other K keeps = sent_keeps s d from to K (lists.elements (held K s)) one other (elements_within (held K s) (held_within K s keeps)) keeps

-- ---- SMOVE

abbrev SetWithin : Option Members → Type 0
SetWithin None = Unit {0}
SetWithin (Some s) = MembersWithin s

members_within : (v : Option Value) → HeldWithin v → SetWithin (sets.members_of v)
members_within None within = set_rows.none_within
members_within (Some (Value.Set s)) within = within.1
members_within (Some (Value.Str b)) within = tt
members_within (Some (Value.Elements b)) within = tt
members_within (Some (Value.Hash b)) within = tt

joined_keeps : (s d m : Bytes) (K : Keyspace) (from : Members) (to : Option Members) → IsWord s → IsWord d → IsWord m → MembersWithin from → SetWithin to → KeepsLimits K
    → KeepsLimits (sets.joined s d m K from to).1
joined_keeps s d m K from None one other word each more keeps = keeps
joined_keeps s d m K from (Some to) one other word each more keeps = by (members.contains from m) (same s d) refl refl
  where
    taken : KeepsLimits (with_change s (sets.stored (members.remove from m)) K)
    taken = change_keeps s (sets.stored (members.remove from m)) K one (set_rows.stored_within (members.remove from m) (set_rows.remove_within from m each)) keeps

    given : KeepsLimits (with_change d (sets.stored (members.insert to m)) (with_change s (sets.stored (members.remove from m)) K))
    given =
        change_keeps d (sets.stored (members.insert to m)) (with_change s (sets.stored (members.remove from m)) K) other
        (set_rows.stored_within (members.insert to m) (set_rows.insert_within to m word more)) taken

    by : (b c : Bool) → members.contains from m ≡ b → same s d ≡ c → KeepsLimits (sets.joined s d m K from (Some to)).1
    by false c e f = rw e keeps
    by true true e f = rw (e, f) keeps
    by true false e f = rw (e, f) given

left_keeps : (s d m : Bytes) (K : Keyspace) (v : Option Value) → IsWord s → IsWord d → IsWord m → HeldWithin v → KeepsLimits K → KeepsLimits (sets.left s d m K v).1
left_keeps s d m K None one other word within keeps = keeps
left_keeps s d m K (Some (Value.Set from)) one other word within keeps =
    joined_keeps s d m K from (sets.members_of (held K d)) one other word within.1 (members_within (held K d) (held_within K d keeps)) keeps
left_keeps s d m K (Some (Value.Str b)) one other word within keeps = keeps
left_keeps s d m K (Some (Value.Elements b)) one other word within keeps = keeps
left_keeps s d m K (Some (Value.Hash b)) one other word within keeps = keeps

pub smove_keeps : (s d m : Bytes) → IsWord s → IsWord d → IsWord m → RowKeeps (sets.smove s d m)
smove_keeps s d m one other word K keeps = left_keeps s d m K (held K s) one other word (held_within K s keeps) keeps

-- ---- SINTERSTORE, SUNIONSTORE and SDIFFSTORE

abbrev SetsWithin : Option (List Members) → Type 0
SetsWithin None = Unit {0}
SetsWithin (Some ss) = AllWithin ss

with_set_within : (s : Option Members) (more : Option (List Members)) → SetWithin s → SetsWithin more → SetsWithin (sets.with_set s more)
with_set_within None more one others = tt
with_set_within (Some s) None one others = tt
with_set_within (Some s) (Some more) one others = (one, others)

sets_within : (K : Keyspace) (ks : List Bytes) → KeepsLimits K → SetsWithin (sets.sets_of K ks)
sets_within K [] keeps = tt
sets_within K (k ∷ ks) keeps = with_set_within (sets.members_of (held K k)) (sets.sets_of K ks) (members_within (held K k) (held_within K k keeps)) (sets_within K ks keeps)

-- whatever way sets are combined, members of the result are members of one of them
abbrev pub CombinesWithin : (List Members → Members) → Type 0
CombinesWithin combine = (ss : List Members) → AllWithin ss → MembersWithin (combine ss)

over_within : (combine : List Members → Members) → CombinesWithin combine → (ss : Option (List Members)) → SetsWithin ss → SetWithin (sets.over combine ss)
over_within combine h None all = tt
over_within combine h (Some ss) all = h ss all

kept_keeps : (d : Bytes) (made : Option Members) → IsWord d → SetWithin made → RowKeeps (λ K. sets.kept d K made)
kept_keeps d None word each K keeps = keeps
kept_keeps d (Some s) word each K keeps = change_keeps d (sets.stored s) K word (set_rows.stored_within s each) keeps

pub store_keeps : (combine : List Members → Members) (d : Bytes) (ks : List Bytes) → CombinesWithin combine → IsWord d → RowKeeps (sets.store combine d ks)
store_keeps combine d ks h word K keeps =
    kept_keeps d (sets.over combine (sets.sets_of K ks)) word (over_within combine h (sets.sets_of K ks) (sets_within K ks keeps)) K keeps
