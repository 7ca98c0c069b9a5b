-- What each turn makes of a session that has a table of its own.
use Rattle.std.proofs.Common.{◌≡◌, inl, inr, ℕ, ◌+◌, ◌≤◌, arith, eqb, true, false, List, [], ◌∷◌, ◌++◌, refl, sym, ap, subst, ◌∙◌}
use Rattle.std.specs.Prelude.{is_some}
use Rattle.std.specs.List.{AllByRecursion}
use Rattle.df_model.specs.Keyspace.{Keyspace, no_keys}
use Rattle.df_model.specs.History.{Item}
use Rattle.df_model.specs.Spoken.{Spoke, MAX_OPEN}
use Rattle.df_model.specs.declared.session.Turn.TheVariants as turns
use Rattle.df_model.specs.declared.session.Why.{Why}
use Rattle.df_outside.specs.Links.{Flow}
use Rattle.df_caller.specs.Told.{Told, told_items}
use Rattle.df_conn.specs.Turns.{session_of}
use Rattle.df_conn.specs.declared.conn.Stage.TheVariants as stages
use Rattle.df_desk.specs.OneTable.{cons_if, of_session, IsByPlace, with_ran}
use Rattle.df_desk.proofs.TableLaws.{tables_go_on, tables_end}
use Rattle.df_sessions.specs.Sessions.{Sitting, Parted, Sits, Sat, Left, IsDueAfter}
use Rattle.df_sessions.specs.AllSessions.{Ran}
use Rattle.df_sessions.proofs.ListLaws.{all_push}
use Rattle.df_server.specs.Promise.{IsNumbered}
use Rattle.df_server.specs.Alone.{RanAlone, PipeHolds, ServedAlone}

pub holds_first : (flow : Flow) (K : Keyspace) (s : Sitting) → Sits s 0 flow false → is_some flow.left ≡ true → K ≡ no_keys → PipeHolds s.first K s
holds_first flow K s sits limited keys = record {
  id = sits.id_is;
  first_is = refl;
  going = sits.going;
  limited = sits.limited limited;
  due = sits.due;
  ran = record {
    items = [];
    ran = λ id. [];
    ran_is = sym sits.none;
    table = record { leads = keys; placed = tt; theirs = λ id. tt };
    each = tt;
  };
}

-- a call ran, or none
ran_on : (K after : Keyspace) (old new : List Told) → RanAlone K old → Ran old new K after → RanAlone after new
ran_on K after old new h r =
    elim r [
      | inl none ↦ subst (λ k. RanAlone k new) (sym none.1) (subst (RanAlone K) (sym none.0) h)
      | inr one ↦
          let g = tables_go_on no_keys K after h.items h.ran 0 one.0 one.1 h.table one.3 in
          record {
            items = h.items ++ g.item ∷ [];
            ran = with_ran h.ran 0 one.0;
            ran_is = ap (λ l. l ++ one.0 ∷ []) h.ran_is ∙ sym one.2;
            table = g.next;
            each = all_push (λ (i : Item). i.session ≡ 0) h.items g.item h.each g.session;
          }
    ]

pub holds_on : (first : Flow) (K after : Keyspace) (old new : Sitting) → PipeHolds first K old → Sat false turns.Moved old new → Ran old.desk.ran new.desk.ran K after → IsDueAfter turns.Moved new → PipeHolds first after new
holds_on first K after old new h sat ran due = record {
  id = sat.id ∙ h.id;
  first_is = sat.first ∙ h.first_is;
  going = sat.stage;
  limited = (sat.nearer h.limited).0;
  due = due;
  ran = ran_on K after old.desk.ran new.desk.ran h.ran ran;
}

-- ---- the end

-- all items are of this session
its_own : (items : List Item) → AllByRecursion (λ (i : Item). i.session ≡ 0) items → of_session 0 items ≡ items
its_own [] each = refl
its_own (i ∷ items) each = ap (λ n. cons_if (eqb n 0) i (of_session 0 items)) each.0 ∙ ap (λ l. i ∷ l) (its_own items each.1)

numbers : (before : ℕ) (items : List Item) → AllByRecursion (λ (i : Item). i.session ≡ 0) items → IsByPlace before items → IsNumbered before items
numbers before [] each placed = tt
numbers before (i ∷ items) each placed = (each.0, placed.0, placed.1, numbers (before + 1) items each.1 placed.2)

over_same : (a b : Why) → stages.Over a ≡ stages.Over b → a ≡ b
over_same a b e = cc

-- the first session isn't late
none_late : (id : ℕ) → id ≡ 0 → MAX_OPEN ≤ id → ⊥
none_late id zero late = omega (arith, zero, late)

pub ends_alone : (why : Why) (first : Flow) (K after : Keyspace) (old new : Sitting) (p : Parted) → PipeHolds first K old → Sat false (turns.Ended why) old new → Ran old.desk.ran new.desk.ran K after → Left new p → ServedAlone first p
ends_alone why first K after old new p h sat ran left =
    let same : p.why ≡ why = over_same p.why why (sym left.over ∙ sat.stage) in
    let r : RanAlone after new.desk.ran = ran_on K after old.desk.ran new.desk.ran h.ran ran in
    let e = tables_end no_keys after r.items r.ran r.table in
    let id : p.id ≡ 0 = left.id ∙ sat.id ∙ h.id in
    let x = left.spoken in
    let told : Spoke (session_of 0 p.why x.bytes x.wrote) (told_items (r.ran 0)) =
    subst (λ n. Spoke (session_of n p.why x.bytes x.wrote) (told_items (r.ran 0))) id
    (subst (λ l. Spoke (session_of p.id p.why x.bytes x.wrote) (told_items l)) (left.told ∙ sym r.ran_is) x.spoke) in
    record {
      first_is = left.first ∙ sat.first ∙ h.first_is;
      not_stopped = λ is. cc (sat.halts.0 (sym same ∙ is));
      let_in = λ is. absurd (none_late new.id (sat.id ∙ h.id) (sat.halts.1 (sym same ∙ is)).late);
      items = r.items;
      legal = e.0;
      ordered = e.1;
      numbered = numbers 0 r.items r.each r.table.placed;
      spoken = x;
      spoke = subst (Spoke (session_of 0 p.why x.bytes x.wrote)) (its_own r.items r.each) (e.2 (session_of 0 p.why x.bytes x.wrote) told);
    }
