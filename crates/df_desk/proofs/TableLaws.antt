-- One list for all sessions of one table.
use Rattle.std.proofs.Common.{◌≡◌, ℕ, ◌+◌, ◌≤◌, eqb, Bool, true, false, List, [], ◌∷◌, ◌++◌, length, refl, sym, ap, subst, ◌∙◌, arith, append-nil}
use Rattle.std.specs.Prelude.{if◌then◌else◌}
use Rattle.df_model.specs.Keyspace.{Keyspace}
use Rattle.df_model.specs.Calls.{Allowed}
use Rattle.df_model.specs.History.{Item, Leads, RisesFrom, HasSeen, SeesItsOwn, each_call}
use Rattle.df_caller.specs.Told.{Told, told_items, Alike}
use Rattle.df_caller.proofs.ToldLaws.{spoken_alike}
use Rattle.df_desk.specs.OneTable.{cons_if, of_session, IsByPlace, with_ran, TablesGoOn, TablesEnd}

leads_more : (K0 K after : Keyspace) (items : List Item) (item : Item) → Leads K0 items K → Allowed item.call item.marks K item.reply after → Leads K0 (items ++ item ∷ []) after
leads_more K0 K after [] item l a = (after, subst (λ k. Allowed item.call item.marks k item.reply after) l a, refl)
leads_more K0 K after (x ∷ items) item l a = (l.0, l.1, leads_more l.0 K after items item l.2 a)

placed_more : (before : ℕ) (items : List Item) (item : Item) → IsByPlace before items → item.number ≡ before + length items + 1 → item.floor ≡ before + length items → IsByPlace before (items ++ item ∷ [])
placed_more before [] item p number floor = (omega arith, omega arith, tt)
placed_more before (x ∷ items) item p number floor = (p.0, p.1, placed_more (before + 1) items item p.2 (omega arith) (omega arith))

alike_append : (told : List Told) (t : Told) (items : List Item) (i : Item) → Alike (told_items told) items → t.call ≡ i.call → t.reply ≡ i.reply → Alike (told_items (told ++ t ∷ [])) (items ++ i ∷ [])
alike_append [] t [] i a call reply = (call, reply, tt)
alike_append [] t (j ∷ js) i a call reply = absurd a
alike_append (x ∷ told) t [] i a call reply = absurd a
alike_append (x ∷ told) t (j ∷ js) i a call reply = (a.0, a.1, alike_append told t js i a.2 call reply)

alike_more : (b : Bool) (told : List Told) (t : Told) (items : List Item) (i : Item) → Alike (told_items told) items → t.call ≡ i.call → t.reply ≡ i.reply → Alike (told_items (if b then told ++ t ∷ [] else told)) (items ++ cons_if b i [])
alike_more true told t items i a call reply = alike_append told t items i a call reply
alike_more false told t items i a call reply = subst (Alike (told_items told)) (sym (append-nil items)) a

cons_more : (b c : Bool) (x i : Item) (items : List Item) → cons_if b x (items ++ cons_if c i []) ≡ cons_if b x items ++ cons_if c i []
cons_more true c x i items = refl
cons_more false c x i items = refl

session_more : (id : ℕ) (items : List Item) (i : Item) → of_session id (items ++ i ∷ []) ≡ of_session id items ++ cons_if (eqb i.session id) i []
session_more id [] i = refl
session_more id (x ∷ items) i = ap (λ l. cons_if (eqb x.session id) x l) (session_more id items i) ∙ cons_more (eqb x.session id) (eqb i.session id) x i (of_session id items)

pub tables_go_on : TablesGoOn
tables_go_on K0 K after items ran id t marks o a =
    let item : Item = record { session = id; number = length items + 1; call = t.call; marks = marks; floor = length items; reply = t.reply } in
    record {
      item = item;
      session = refl;
      next = record {
        leads = leads_more K0 K after items item o.leads a;
        placed = placed_more 0 items item o.placed (omega arith) (omega arith);
        theirs = λ n. subst (Alike (told_items (with_ran ran id t n))) (sym (session_more n items item)) (alike_more (eqb id n) (ran n) t (of_session n items) item (o.theirs n) refl refl);
      };
    }

rises : (before : ℕ) (items : List Item) → IsByPlace before items → RisesFrom before items
rises before [] n = tt
rises before (x ∷ items) n = (omega (arith, n.0), omega (arith, n.0, n.1), subst (λ k. RisesFrom k items) (sym n.0) (rises (before + 1) items n.2))

sees : (session number before : ℕ) (items : List Item) → number ≤ before → IsByPlace before items → HasSeen session number items
sees session number before [] le n = tt
sees session number before (x ∷ items) le n = ((λ _. omega (arith, n.1)), sees session number (before + 1) items (omega arith) n.2)

all_see : (before : ℕ) (items : List Item) → IsByPlace before items → SeesItsOwn each_call items
all_see before [] n = tt
all_see before (x ∷ items) n = ((λ _. sees x.session x.number (before + 1) items (omega (arith, n.0)) n.2), all_see (before + 1) items n.2)

pub tables_end : TablesEnd
tables_end K0 K items ran o =
    ((K, o.leads), record { rises = rises 0 items o.placed; sees_its_own = all_see 0 items o.placed }, λ w s. spoken_alike w (told_items (ran w.id)) (of_session w.id items) (o.theirs w.id) s)
