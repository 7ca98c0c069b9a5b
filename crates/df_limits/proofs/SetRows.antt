-- Rows of sets put members that are words, and no empty set; sets that are combined have members that are words.
use Rattle.std.proofs.Common.{◌≡◌, Bool, true, false, List, [], ◌∷◌, refl, sym, ap, ◌∙◌}
use Rattle.std.specs.Prelude.{Option, Some, None, ◌||◌, not, is_some}
use Rattle.std.specs.List.{AllByRecursion}
use Rattle.std.specs.FinMap as map
use Rattle.df_model.specs.Values.{Bytes, Value, Members}
use Rattle.df_model.specs.Members as members
use Rattle.df_model.specs.Framing.{IsWord}
use Rattle.df_model.specs.Outcomes.{Outcome}
use Rattle.df_model.specs.Meaning.Sets as sets
use Rattle.df_model.proofs.MembersLaws.{in_with_all}
use Rattle.df_limits.specs.Limits.{Each}
use Rattle.df_limits.proofs.EachLaws.{each_of_none, each_insert, each_remove, each_retained}
use Rattle.df_limits.proofs.RowLaws.{HeldWithin, ChangeWithin, unless_empty}

abbrev IsMember : Bytes → Unit {0} → Type 0
IsMember member there = IsWord member

abbrev pub MembersWithin : Members → Type 0
MembersWithin = Each IsMember

pub none_within : MembersWithin members.empty
none_within = each_of_none IsMember

pub stored_within : (s : Members) → MembersWithin s → ChangeWithin (sets.stored s)
stored_within s each = unless_empty (map.len s) (Value.Set s) (λ some. (some, each))

pub on_set : (row : Members → Outcome) → ((s : Members) → MembersWithin s → ChangeWithin (row s).1)
    → (v : Option Value) → HeldWithin v → ChangeWithin (sets.changes row v).1
on_set row h None within = h members.empty none_within
on_set row h (Some (Value.Set s)) within = h s within.1
on_set row h (Some (Value.Str b)) within = tt
on_set row h (Some (Value.Elements b)) within = tt
on_set row h (Some (Value.Hash b)) within = tt

pub insert_within : (s : Members) (m : Bytes) → IsWord m → MembersWithin s → MembersWithin (members.insert s m)
insert_within s m word each = each_insert IsMember s m tt word each

pub remove_within : (s : Members) (m : Bytes) → MembersWithin s → MembersWithin (members.remove s m)
remove_within s m each = each_remove IsMember s m each

put_within : (ms : List Bytes) (s : Members) → AllByRecursion IsWord ms → MembersWithin s → MembersWithin (sets.with_members ms s)
put_within [] s all each = each
put_within (m ∷ ms) s all each = put_within ms (members.insert s m) all.1 (insert_within s m all.0 each)

left_within : (ms : List Bytes) (s : Members) → MembersWithin s → MembersWithin (sets.without_members ms s)
left_within [] s each = each
left_within (m ∷ ms) s each = left_within ms (members.remove s m) (remove_within s m each)

pub sadd_within : (ms : List Bytes) → AllByRecursion IsWord ms → (s : Members) → MembersWithin s → ChangeWithin (sets.sadd ms s).1
sadd_within ms all s each = stored_within (sets.with_members ms s) (put_within ms s all each)

pub srem_within : (ms : List Bytes) (s : Members) → MembersWithin s → ChangeWithin (sets.srem ms s).1
srem_within ms s each = stored_within (sets.without_members ms s) (left_within ms s each)

-- ---- sets that are combined

-- the same by the test that a set answers
told : (s : Members) (q : Bytes) → MembersWithin s → members.contains s q ≡ true → IsWord q
told s q each = by (map.get s q) refl
  where
    by : (there : Option (Unit {0})) → map.get s q ≡ there → is_some there ≡ true → IsWord q
    by None e some = cc
    by (Some there) e some = each q there e

is_there : (s : Members) (q : Bytes) (there : Unit {0}) → map.get s q ≡ Some there → members.contains s q ≡ true
is_there s q there e = ap is_some e

union_within : (s t : Members) → MembersWithin s → MembersWithin t → MembersWithin (members.union s t)
union_within s t one other q there e =
    by (members.contains s q) (members.contains t q) refl refl
    (ap (λ b. members.contains s q || b) (map.contains_key-keys t q) ∙ sym (in_with_all (members.items t) s q) ∙ is_there (members.union s t) q there e)
  where
    by : (a b : Bool) → members.contains s q ≡ a → members.contains t q ≡ b → (a || b) ≡ true → IsWord q
    by true b f g some = told s q one f
    by false true f g some = told t q other g
    by false false f g some = cc

abbrev pub AllWithin : List Members → Type 0
AllWithin = AllByRecursion MembersWithin

pub unions_within : (ss : List Members) → AllWithin ss → MembersWithin (sets.union ss)
unions_within [] all = none_within
unions_within (s ∷ more) all = union_within s (sets.union more) all.0 (unions_within more all.1)

pub inters_within : (ss : List Members) → AllWithin ss → MembersWithin (sets.inter ss)
inters_within [] all = none_within
inters_within (s ∷ []) all = all.0
inters_within (s ∷ t ∷ more) all = each_retained IsMember s (members.contains (sets.inter (t ∷ more))) all.0

pub diffs_within : (ss : List Members) → AllWithin ss → MembersWithin (sets.diff ss)
diffs_within [] all = none_within
diffs_within (s ∷ more) all = each_retained IsMember s (λ m. not (members.contains (sets.union more) m)) all.0
