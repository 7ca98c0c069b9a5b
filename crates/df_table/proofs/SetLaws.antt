-- Sets that are taken out of the table, and what SMOVE makes of them.
use Rattle.std.proofs.Common.{◌≡◌, Bool, true, false, cond, refl, sym, ap, subst, ◌∙◌}
use Rattle.std.specs.Prelude.{Option, Some, None, is_some, if◌then◌else◌, ◌==◌}
use Rattle.std.proofs.lemmas.Bool.{ne_eqb}
use Rattle.std.specs.Ordering.{is_eq, nat_cmp}
use Rattle.std.specs.Cmp.{tied_itself}
use Rattle.std.specs.Cmp.Lexicographic.{nat_list_cmp_total, slice_cmp}
use Rattle.std.specs.FinMap as fin
use Rattle.df_model.specs.Values.{Bytes, Value, Members}
use Rattle.df_model.specs.Words.{same}
use Rattle.df_model.specs.Keyspace.{Keyspace, held, with_held}
use Rattle.df_model.specs.Members as members
use Rattle.df_model.specs.Outcomes as outcomes
use Rattle.df_model.specs.Outcomes.{count, settled}
use Rattle.df_model.specs.Meaning.Sets.{smove, left, joined, members_of, stored}
use Rattle.df_table.specs.Joined.{Has, Joins, put_as}
use Rattle.df_table.specs.Responses.{Gives}
use Rattle.df_table.proofs.OneLaws.{put_back}

-- ---- what is put back

settled_stored : (s : Members) (v w : Option Value) → settled (stored s) v ≡ settled (stored s) w
settled_stored s v w = by (members.len s == 0)
  where
    by : (b : Bool) → settled (if b then outcomes.Change.Delete else outcomes.Change.Put (Value.Set s)) v ≡ settled (if b then outcomes.Change.Delete else outcomes.Change.Put (Value.Set s)) w
    by true = refl
    by false = refl

put_full : (keep b : Bool) (s : Members) → b ≡ false → b ≡ (members.len s == 0) → put_as keep s ≡ Some (Value.Set s)
put_full true b s e is = refl
put_full false b s e is = ap (λ b. settled (if b then outcomes.Change.Delete else outcomes.Change.Put (Value.Set s)) None) (sym is ∙ e)

put_some : (keep : Bool) (s : Members) → (members.len s == 0) ≡ false → put_as keep s ≡ Some (Value.Set s)
put_some keep s h = put_full keep (members.len s == 0) s h refl

-- a set that has a member isn't empty
some_member : (s : Members) (m : Bytes) → members.contains s m ≡ true → (members.len s == 0) ≡ false
some_member s m h = ne_eqb (members.len s) 0 (λ e. none (sym h ∙ ap (λ t. members.contains t m) (fin.empty_of_len s e) ∙ ap is_some (fin.get-empty {X = Unit {0}} (slice_cmp nat_cmp) m)))
  where
    none : true ≡ false → ⊥
    none e = cc

pub as_before : (h : Option Value) (there : Bool) (s : Members) → members_of h ≡ Some s → there ≡ is_some h → h ≡ put_as there s
as_before None there s e is = sym (ap (λ b. put_as b s) is ∙ ap (put_as false) (same_set e) ∙ nothing)
  where
    same_set : {s t : Members} → Some s ≡ Some t → t ≡ s
    same_set e = cc

    nothing : put_as false members.empty ≡ None
    nothing = ap (λ n. settled (if n == 0 then outcomes.Change.Delete else outcomes.Change.Put (Value.Set members.empty)) None) (fin.len-empty _ (Unit {0}))
as_before (Some (Value.Set t)) there s e is = sym (ap (λ b. put_as b s) is ∙ same_set e)
  where
    same_set : Some t ≡ Some s → put_as true s ≡ Some (Value.Set t)
    same_set e = cc
as_before (Some (Value.Str b)) there s e is = cc
as_before (Some (Value.Elements b)) there s e is = cc
as_before (Some (Value.Hash b)) there s e is = cc

same_members : (h : Option Value) (s t : Members) → h ≡ Some (Value.Set t) → members_of h ≡ Some s → t ≡ s
same_members h s t e f = told (sym (ap members_of e) ∙ f)
  where
    told : Some t ≡ Some s → t ≡ s
    told e = cc

pub has_before : (h : Option Value) (m : Bytes) (s : Members) → Has true m h → members_of h ≡ Some s → h ≡ put_as false s
has_before h m s has e =
    has.1 ∙ sym (put_some false has.0 (some_member has.0 m has.2)) ∙ ap (put_as false) (same_members h s has.0 has.1 e)

pub not_put : (K : Keyspace) (key : Bytes) (keep b : Bool) (s : Members) → keep ≡ false → b ≡ true → b ≡ (members.len s == 0) → held K key ≡ None → K ≡ with_held K key (put_as keep s)
not_put K key true b s n e is free = cc
not_put K key false b s n e is free =
    sym (put_back K key (put_as false s) (free ∙ sym (ap (λ b. settled (if b then outcomes.Change.Delete else outcomes.Change.Put (Value.Set s)) None) (sym is ∙ e))))

-- ---- SMOVE

pub smove_is : (s d m : Bytes) (K : Keyspace) (from to : Members) → held K s ≡ Some (Value.Set from) → members.contains from m ≡ true → members_of (held K d) ≡ Some to → same s d ≡ false
    → smove s d m K ≡ (count 1, with_held (with_held K s (put_as false (members.remove from m))) d (put_as false (members.insert to m)))
smove_is s d m K from to at_s has at_d apart =
    let less : Option Value → Keyspace = λ v. with_held K s (settled (stored (members.remove from m)) v) in
    let more : Keyspace → Option Value → Keyspace = λ M v. with_held M d (settled (stored (members.insert to m)) v) in
    ap (left s d m K) at_s
    ∙ ap (joined s d m K from) at_d
    ∙ ap (λ b. if b then (count 1, if same s d then K else more (less (held K s)) (held (less (held K s)) d)) else (count 0, K)) has
    ∙ ap (λ b. (count 1, if b then K else more (less (held K s)) (held (less (held K s)) d))) apart
    ∙ ap (λ v. (count 1, with_held (less (held K s)) d v)) (settled_stored (members.insert to m) (held (less (held K s)) d) None)
    ∙ ap (λ v. (count 1, with_held (with_held K s v) d (put_as false (members.insert to m)))) (settled_stored (members.remove from m) (held K s) None)

inserted : (s : Members) (m : Bytes) → members.contains (members.insert s m) m ≡ true
inserted s m = ap is_some (fin.get-insert nat_list_cmp_total s m tt m ∙ ap (λ b. cond b (Some tt) (fin.get s m)) (ap is_eq (tied_itself nat_list_cmp_total m)))

pub joins : (s d m : Bytes) (K after : Keyspace) (there : Bool) (from less to more : Members) (bytes : Bytes) → same s d ≡ false → Has true m (held K s) → members_of (held K s) ≡ Some from → members_of (held K d) ≡ Some to
    → after ≡ with_held (with_held K s (put_as false less)) d (put_as there more) → Joins m from less to more bytes → Gives (smove s d m K) after bytes
joins s d m K after there from less to more bytes apart has at_s at_d put j =
    let same_set : has.0 ≡ from = same_members (held K s) from has.0 has.1 at_s in
    let is : smove s d m K ≡ (count 1, with_held (with_held K s (put_as false (members.remove from m))) d (put_as false (members.insert to m))) =
    smove_is s d m K from to (has.1 ∙ ap (λ t. Some (Value.Set t)) same_set) (ap (λ t. members.contains t m) (sym same_set) ∙ has.2) at_d apart in
    let full : (members.len (members.insert to m) == 0) ≡ false = some_member (members.insert to m) m (inserted to m) in
    subst (λ x. Gives x after bytes) (sym is)
    (record {
      leaves = put
          ∙ ap (λ t. with_held (with_held K s (put_as false t)) d (put_as there more)) j.takes
          ∙ ap (with_held (with_held K s (put_as false (members.remove from m))) d) (ap (put_as there) j.gives ∙ put_some there (members.insert to m) full ∙ sym (put_some false (members.insert to m) full));
      says = j.says;
    })
