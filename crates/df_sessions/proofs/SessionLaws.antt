-- What each event of the loop makes of the one list.
use Rattle.std.proofs.Common.{◌≡◌, inl, inr, ℕ, ◌+◌, ◌≤◌, ◌<◌, Bool, true, false, cond, eqb, ltb, List, [], ◌∷◌, ◌++◌, length, get_or, set, refl, sym, ap, subst, ◌∙◌, arith}
use Rattle.std.specs.Prelude.{if◌then◌else◌}
use Rattle.std.specs.List.{swap_remove}
use Rattle.std.proofs.lemmas.Bool.{eq-eqb, ne_eqb, lt-ltb, ltb-true, ltb-false, le-ltb, eqb-true, eqb-false}
use Rattle.std.proofs.lemmas.List.Sums.{sum_by-set, sum_by-swap_remove, sum_by_push}
use Rattle.std.proofs.Math.Nat.{eq-or-lt_of_le}
use Rattle.df_model.specs.Keyspace.{Keyspace}
use Rattle.df_model.specs.Calls.{Allowed}
use Rattle.df_model.specs.History.{Item}
use Rattle.df_model.specs.Spoken.{Spoke}
use Rattle.df_model.specs.declared.session.Why.{Why}
use Rattle.df_model.specs.declared.session.Why.TheVariants as whys
use Rattle.df_outside.specs.Doors.{IsFresh}
use Rattle.df_caller.specs.Told.{Told, told_items}
use Rattle.df_conn.specs.Turns.{session_of}
use Rattle.df_desk.specs.OneTable.{with_ran, GoneOn}
use Rattle.df_desk.proofs.TableLaws.{tables_go_on, tables_end}
use Rattle.df_sessions.specs.Sessions.{Sitting, Parted, HasSpoken}
use Rattle.df_sessions.specs.AllSessions.{at_id, at_below, gone_at, Holds, Ran, HasItems, Promises, AnyAsked, EndsFor, IsToldSo, asks_with}
use Rattle.df_sessions.proofs.ListLaws.{all_set, all_get, all_without, all_push, all_map, all_three, all_none, all_other, sum_ge}

abbrev bit : Bool → ℕ
bit b = cond b 1 0

below_one : (b : Bool) → bit b ≤ 1
below_one true = omega arith
below_one false = omega arith

one_is : (b : Bool) → 1 ≤ bit b → b ≡ true
one_is true le = refl
one_is false le = absurd (omega (arith, le))

if_yes : {X : Type 0} (b : Bool) (x y : X) → b ≡ true → (if b then x else y) ≡ x
if_yes true x y e = refl
if_yes false x y e = absurd (cc e)

if_none : {X : Type 0} (b : Bool) (x y : X) → bit b ≡ 0 → (if b then x else y) ≡ y
if_none true x y e = absurd (omega (arith, e))
if_none false x y e = refl

at_same : (id n : ℕ) → id ≡ n → at_id id n ≡ 1
at_same id n e = ap bit (eq-eqb id n e)

at_other : (id n : ℕ) → (id ≡ n → ⊥) → at_id id n ≡ 0
at_other id n e = ap bit (ne_eqb id n e)

pub starts : (K0 K : Keyspace) → K ≡ K0 → Holds K0 K 0 [] []
starts K0 K same = record {
  items = [];
  ran = λ id. [];
  table = record { leads = same; placed = tt; theirs = λ id. tt };
  below = tt;
  fresh = λ id le. refl;
  once = λ id. sym (ap bit (le-ltb id 0 (omega arith)));
  open_ran = tt;
  gone_ran = tt;
  spoken = tt;
  open_fresh = tt;
  gone_fresh = tt;
}

above : (count id : ℕ) → count ≤ id → (id ≡ count → ⊥) → count + 1 ≤ id
above count id le other = elim (eq-or-lt_of_le {n = count} {m = id} le) [ inl same ↦ absurd (other (sym same)) | inr lt ↦ omega (arith, lt) ]

count_above : (count id : ℕ) → count ≤ id → at_below count id ≡ 0 → (b : Bool) → eqb id count ≡ b → at_below (count + 1) id ≡ at_below count id + at_id id count
count_above count id le zero true e =
    let same = eqb-true id count e in
    omega (arith, ap bit (lt-ltb id (count + 1) (omega (arith, same))), ap bit e, zero)
count_above count id le zero false e =
    omega (arith, ap bit (le-ltb id (count + 1) (above count id le (eqb-false id count e))), ap bit e, zero)

-- the count grows by one place
count_cases : (count id : ℕ) → (b : Bool) → ltb id count ≡ b → at_below (count + 1) id ≡ at_below count id + at_id id count
count_cases count id true e =
    let lt = ltb-true id count e in
    omega (arith, ap bit (lt-ltb id (count + 1) (omega (arith, lt))), ap bit e, at_other id count (λ s. omega (arith, s, lt)))
count_cases count id false e = count_above count id (ltb-false id count e) (ap bit e) (eqb id count) refl

count_more : (count id : ℕ) → at_below (count + 1) id ≡ at_below count id + at_id id count
count_more count id = count_cases count id (ltb id count) refl

pub enters : (K0 K : Keyspace) (count : ℕ) (seats : List Sitting) (gone : List Parted) (s : Sitting) → Holds K0 K count seats gone → s.id ≡ count → s.desk.ran ≡ [] → IsFresh s.first → Holds K0 K (count + 1) (seats ++ s ∷ []) gone
enters K0 K count seats gone s h is none fresh = record {
  items = h.items;
  ran = h.ran;
  table = h.table;
  below = all_map (λ (i : Item). i.session < count) (λ (i : Item). i.session < count + 1) h.items (λ i lt. omega (arith, lt)) h.below;
  fresh = λ id le. h.fresh id (omega (arith, le));
  once = λ id. omega (arith, h.once id, sum_by_push (λ (x : Sitting). at_id id x.id) seats s, ap (at_id id) is, count_more count id);
  open_ran = all_push (λ (x : Sitting). h.ran x.id ≡ x.desk.ran) seats s h.open_ran (h.fresh s.id (omega (arith, is)) ∙ sym none);
  gone_ran = h.gone_ran;
  spoken = h.spoken;
  open_fresh = all_push (λ (x : Sitting). IsFresh x.first) seats s h.open_fresh fresh;
  gone_fresh = h.gone_fresh;
}

-- a session whose place and calls stay
pub stays : (K0 K : Keyspace) (count : ℕ) (seats : List Sitting) (gone : List Parted) (at : ℕ) (s s' : Sitting) → Holds K0 K count seats gone → at < length seats → s ≡ get_or seats at s → s'.id ≡ s.id → s'.first ≡ s.first → s'.desk.ran ≡ s.desk.ran →
    Holds K0 K count (set seats at s') gone
stays K0 K count seats gone at s s' h lt is id first ran =
    let own : h.ran s.id ≡ s.desk.ran = subst (λ (x : Sitting). h.ran x.id ≡ x.desk.ran) (sym is) (all_get (λ (x : Sitting). h.ran x.id ≡ x.desk.ran) seats at s h.open_ran lt) in
    record {
      items = h.items;
      ran = h.ran;
      table = h.table;
      below = h.below;
      fresh = h.fresh;
      once = λ n. omega (arith, h.once n, sum_by-set (λ (x : Sitting). at_id n x.id) seats at s' s lt, ap (at_id n) id, ap (λ (x : Sitting). at_id n x.id) is);
      open_ran = all_set (λ (x : Sitting). h.ran x.id ≡ x.desk.ran) seats at s' h.open_ran (ap h.ran id ∙ own ∙ sym ran);
      gone_ran = h.gone_ran;
      spoken = h.spoken;
      open_fresh = all_set (λ (x : Sitting). IsFresh x.first) seats at s' h.open_fresh (subst IsFresh (sym first) (subst (λ (x : Sitting). IsFresh x.first) (sym is) (all_get (λ (x : Sitting). IsFresh x.first) seats at s h.open_fresh lt)));
      gone_fresh = h.gone_fresh;
    }

-- a call of one session ran
one_more : (K0 K after : Keyspace) (count : ℕ) (seats : List Sitting) (gone : List Parted) (at : ℕ) (s s' : Sitting) (t : Told) (marks : List Bool) → Holds K0 K count seats gone → at < length seats → s ≡ get_or seats at s → s'.id ≡ s.id → s'.first ≡ s.first →
    s'.desk.ran ≡ s.desk.ran ++ t ∷ [] → Allowed t.call marks K t.reply after → Holds K0 after count (set seats at s') gone
one_more K0 K after count seats gone at s s' t marks h lt is id first ran a =
    let own : h.ran s.id ≡ s.desk.ran = subst (λ (x : Sitting). h.ran x.id ≡ x.desk.ran) (sym is) (all_get (λ (x : Sitting). h.ran x.id ≡ x.desk.ran) seats at s h.open_ran lt) in
    let counts : at_id s.id (get_or seats at s).id ≡ 1 = at_same s.id (get_or seats at s).id (ap (λ (x : Sitting). x.id) is) in
    let ge = sum_ge (λ (x : Sitting). at_id s.id x.id) seats at s lt in
    let whole = h.once s.id in
    let most = below_one (ltb s.id count) in
    let placed : s.id < count = ltb-true s.id count (one_is (ltb s.id count) (omega (arith, counts, ge, whole))) in
    let g : GoneOn K0 after h.items h.ran s.id t = tables_go_on K0 K after h.items h.ran s.id t marks h.table a in
    record {
      items = h.items ++ g.item ∷ [];
      ran = with_ran h.ran s.id t;
      table = g.next;
      below = all_push (λ (i : Item). i.session < count) h.items g.item h.below (omega (arith, g.session, placed));
      fresh = λ n le. if_none (eqb s.id n) (h.ran n ++ t ∷ []) (h.ran n) (at_other s.id n (λ e. omega (arith, e, le, placed))) ∙ h.fresh n le;
      once = λ n. omega (arith, h.once n, sum_by-set (λ (x : Sitting). at_id n x.id) seats at s' s lt, ap (at_id n) id, ap (λ (x : Sitting). at_id n x.id) is);
      open_ran = all_other (λ (x : Sitting). at_id s.id x.id) (λ (x : Sitting). h.ran x.id ≡ x.desk.ran) (λ (x : Sitting). with_ran h.ran s.id t x.id ≡ x.desk.ran) seats at s' s lt (omega (arith, whole, most)) counts
          (λ x none e. if_none (eqb s.id x.id) (h.ran x.id ++ t ∷ []) (h.ran x.id) none ∙ e) h.open_ran
          (if_yes (eqb s.id s'.id) (h.ran s'.id ++ t ∷ []) (h.ran s'.id) (eq-eqb s.id s'.id (sym id)) ∙ ap (λ l. l ++ t ∷ []) (ap h.ran id ∙ own) ∙ sym ran);
      gone_ran = all_none (λ (p : Parted). at_id s.id p.id) (λ (p : Parted). h.ran p.id ≡ p.told) (λ (p : Parted). with_ran h.ran s.id t p.id ≡ p.told) gone (omega (arith, whole, most, counts, ge))
          (λ p none e. if_none (eqb s.id p.id) (h.ran p.id ++ t ∷ []) (h.ran p.id) none ∙ e) h.gone_ran;
      spoken = h.spoken;
      open_fresh = all_set (λ (x : Sitting). IsFresh x.first) seats at s' h.open_fresh (subst IsFresh (sym first) (subst (λ (x : Sitting). IsFresh x.first) (sym is) (all_get (λ (x : Sitting). IsFresh x.first) seats at s h.open_fresh lt)));
      gone_fresh = h.gone_fresh;
    }

pub serves : (K0 K after : Keyspace) (count : ℕ) (seats : List Sitting) (gone : List Parted) (at : ℕ) (s s' : Sitting) → Holds K0 K count seats gone → at < length seats → s ≡ get_or seats at s → s'.id ≡ s.id → s'.first ≡ s.first →
    Ran s.desk.ran s'.desk.ran K after → Holds K0 after count (set seats at s') gone
serves K0 K after count seats gone at s s' h lt is id first r =
    elim r [
      | inl same ↦ subst (λ k. Holds K0 k count (set seats at s') gone) (sym same.1) (stays K0 K count seats gone at s s' h lt is id first same.0)
      | inr more ↦ one_more K0 K after count seats gone at s s' more.0 more.1 h lt is id first more.2 more.3
    ]

-- a session ended and left
pub leaves : (K0 K : Keyspace) (count : ℕ) (seats : List Sitting) (gone : List Parted) (at : ℕ) (s : Sitting) (p : Parted) → Holds K0 K count seats gone → at < length seats → s ≡ get_or seats at s → p.id ≡ s.id → p.first ≡ s.first → p.told ≡ s.desk.ran →
    HasSpoken p → Holds K0 K count (swap_remove seats at s) (gone ++ p ∷ [])
leaves K0 K count seats gone at s p h lt is id first told spoken =
    let own : h.ran s.id ≡ s.desk.ran = subst (λ (x : Sitting). h.ran x.id ≡ x.desk.ran) (sym is) (all_get (λ (x : Sitting). h.ran x.id ≡ x.desk.ran) seats at s h.open_ran lt) in
    let own_fresh : IsFresh s.first = subst (λ (x : Sitting). IsFresh x.first) (sym is) (all_get (λ (x : Sitting). IsFresh x.first) seats at s h.open_fresh lt) in
    record {
      items = h.items;
      ran = h.ran;
      table = h.table;
      below = h.below;
      fresh = h.fresh;
      once = λ n. omega (arith, h.once n, sum_by-swap_remove (λ (x : Sitting). at_id n x.id) seats at s lt, sum_by_push (λ (x : Parted). at_id n x.id) gone p, ap (at_id n) id, ap (λ (x : Sitting). at_id n x.id) is);
      open_ran = all_without (λ (x : Sitting). h.ran x.id ≡ x.desk.ran) seats at s h.open_ran own;
      gone_ran = all_push (λ (x : Parted). h.ran x.id ≡ x.told) gone p h.gone_ran (ap h.ran id ∙ own ∙ sym told);
      spoken = all_push HasSpoken gone p h.spoken spoken;
      open_fresh = all_without (λ (x : Sitting). IsFresh x.first) seats at s h.open_fresh own_fresh;
      gone_fresh = all_push (λ (x : Parted). IsFresh x.first) gone p h.gone_fresh (subst IsFresh (sym first) own_fresh);
    }

pub ends : (K0 K : Keyspace) (count : ℕ) (gone : List Parted) → Holds K0 K count [] gone → Promises K0 count gone
ends K0 K count gone h =
    let e = tables_end K0 K h.items h.ran h.table in
    record {
      items = h.items;
      legal = e.0;
      ordered = e.1;
      spoke = all_three (λ (p : Parted). h.ran p.id ≡ p.told) HasSpoken (λ (p : Parted). IsFresh p.first) (HasItems h.items) gone
          (λ p same x fresh. record {
            fresh = fresh;
            bytes = x.bytes;
            wrote = x.wrote;
            taken = x.taken;
            written = x.written;
            spoke = e.2 (session_of p.id p.why x.bytes x.wrote) (subst (λ told. Spoke (session_of p.id p.why x.bytes x.wrote) (told_items told)) (sym same) x.spoke);
            proven = x.proven;
          }) h.gone_ran h.spoken h.gone_fresh;
      once = λ id. omega (arith, h.once id);
      placed = all_map (λ (i : Item). i.session < count) (λ (i : Item). gone_at i.session gone ≡ 1) h.items
          (λ i lt. omega (arith, h.once i.session, ap bit (lt-ltb i.session count lt))) h.below;
    }

-- ---- why sessions ended

pub none_ended : EndsFor false []
none_ended = record { by_one = λ e. absurd (cc e); stopped = tt; turned_away = tt }

-- where one thing that ends sessions means another
pub told_also : (A B : Type 0) (p : Parted) → (A → B) → IsToldSo A p → IsToldSo B p
told_also A B p f told = λ e.
    let a = told e in
    record {
      late = a.late;
      took = a.took;
      said = elim a.said [
        | inl line ↦ inl line
        | inr (inl rose) ↦ inr (inl rose)
        | inr (inr halts) ↦ inr (inr (f halts))
      ];
    }

any_more : (gone : List Parted) (p : Parted) → AnyAsked gone → AnyAsked (gone ++ p ∷ [])
any_more [] p a = absurd a
any_more (x ∷ gone) p (inl is) = inl is
any_more (x ∷ gone) p (inr a) = inr (any_more gone p a)

any_last : (gone : List Parted) (p : Parted) → p.why ≡ whys.Asked → AnyAsked (gone ++ p ∷ [])
any_last [] p is = inl is
any_last (x ∷ gone) p is = inr (any_last gone p is)

-- one more ended that didn't ask
other_ended : (asked : Bool) (why : Why) (gone : List Parted) (p : Parted) → EndsFor asked gone → p.why ≡ why → (why ≡ whys.Stopped → asked ≡ true) → IsToldSo (asked ≡ true) p → EndsFor asked (gone ++ p ∷ [])
other_ended asked why gone p h is halts told = record {
  by_one = λ e. any_more gone p (h.by_one e);
  stopped = all_push (λ (x : Parted). x.why ≡ whys.Stopped → asked ≡ true) gone p h.stopped (λ e. halts (sym is ∙ e));
  turned_away = all_push (IsToldSo (asked ≡ true)) gone p h.turned_away told;
}

pub one_ended : (asked : Bool) (why : Why) (gone : List Parted) (p : Parted) → EndsFor asked gone → p.why ≡ why → (why ≡ whys.Stopped → asked ≡ true) → IsToldSo (asked ≡ true) p → EndsFor (asks_with asked why) (gone ++ p ∷ [])
one_ended asked whys.Asked gone p h is halts told = record {
  by_one = λ e. any_last gone p is;
  stopped = all_push (λ (x : Parted). x.why ≡ whys.Stopped → true ≡ true) gone p (all_map (λ (x : Parted). x.why ≡ whys.Stopped → asked ≡ true) (λ (x : Parted). x.why ≡ whys.Stopped → true ≡ true) gone (λ x f e. refl) h.stopped) (λ e. refl);
  turned_away = all_push (IsToldSo (true ≡ true)) gone p (all_map (IsToldSo (asked ≡ true)) (IsToldSo (true ≡ true)) gone (λ x f. told_also (asked ≡ true) (true ≡ true) x (λ e. refl) f) h.turned_away) (told_also (asked ≡ true) (true ≡ true) p (λ e. refl) told);
}
one_ended asked whys.InputEnd gone p h is halts told = other_ended asked whys.InputEnd gone p h is halts told
one_ended asked whys.Quit gone p h is halts told = other_ended asked whys.Quit gone p h is halts told
one_ended asked whys.Stopped gone p h is halts told = other_ended asked whys.Stopped gone p h is halts told
one_ended asked (whys.Protocol kind at) gone p h is halts told = other_ended asked (whys.Protocol kind at) gone p h is halts told
one_ended asked whys.ReadFault gone p h is halts told = other_ended asked whys.ReadFault gone p h is halts told
one_ended asked whys.WriteFault gone p h is halts told = other_ended asked whys.WriteFault gone p h is halts told
one_ended asked whys.TooMany gone p h is halts told = other_ended asked whys.TooMany gone p h is halts told
one_ended asked whys.Spent gone p h is halts told = other_ended asked whys.Spent gone p h is halts told
one_ended asked whys.NoMemory gone p h is halts told = other_ended asked whys.NoMemory gone p h is halts told
