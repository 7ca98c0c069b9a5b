-- From what is left at the end of a run to the one list.
use Rattle.std.proofs.Common.{◌≡◌, ◌≢◌, ℕ, zero, suc, ◌+◌, ◌<◌, ◌≤◌, Bool, true, false, not, ltb, List, [], ◌∷◌, map, length, inl, inr, refl, sym, ap, ◌∙◌, subst, arith, eq-eqb, ne_eqb, lt_of_not-le}
use Rattle.std.specs.Prelude.{if◌then◌else◌, Option, Some, None, is_some, ◌||◌}
use Rattle.std.specs.List.{AllByRecursion}
use Rattle.std.proofs.lemmas.Bool.{false≢true, ltb-true, lt-ltb, cases_lt, or_left, or_right}
use mathlib.Core.Logic.{dite}
use native.Mathlib.Decide.{ℕ_discrete, dec_le}
use Rattle.df_model.specs.Keyspace.{Keyspace}
use Rattle.df_model.specs.Spared.{all_of}
use Rattle.df_model.specs.History.{Item, Leads, IsLegal, RisesFrom, SeesItsOwn, IsOrdered}
use Rattle.df_model.specs.declared.command.Call.{Call}
use Rattle.df_model.specs.declared.command.Call.TheVariants.{Single}
use Rattle.df_model.specs.declared.command.Command.TheVariants.{Whole}
use Rattle.df_model.specs.declared.command.WholeOp.TheVariants as wholes
use Rattle.df_model.specs.declared.reply.Reply.{Reply}
use Rattle.df_model.specs.declared.reply.Reply.TheVariants.{Array}
use Rattle.df_order.specs.Lists.{Has, Chain, only, cons_if}
use Rattle.df_order.specs.Model.{Laws, own, names_none, TellAll, IsInOrder}
use Rattle.df_order.specs.Histories as order
use Rattle.df_order.specs.Shards.{Kept}
use Rattle.df_order.proofs.Lists.{has_only, nil_none}
use Rattle.df_order.proofs.Commute.{fit_tells, has_own}
use Rattle.df_order.proofs.ShardKept.{kept_calls}
use Rattle.df_order.proofs.LogsAlone.{none_all, names_none_at}
use Rattle.df_log.specs.Entries.{is_note, acts_of}
use Rattle.df_log.specs.Parts.{Part}
use Rattle.df_log.specs.declared.entry.Entry.{Entry}
use Rattle.df_core.specs.Calls.{calls}
use Rattle.df_core.specs.History.{part_of, with_draw, NamesAShard}
use Rattle.df_core.proofs.CallsLaws.{calls_laws}
use Rattle.df_core.proofs.HistoryLaws.{one_history, saves_stand}
use Rattle.df_core.proofs.JoinedLaws.{joined_parts}
use Rattle.df_book.specs.Weights.{total, count, Each}
use Rattle.df_book.specs.Logs.{at_log, Within}
use Rattle.df_book.specs.Draws.{draws_of, call_at, IsDraw}
use Rattle.df_book.specs.Passes.{Caller, Shard}
use Rattle.df_book.specs.Closed.{Closed}
use Rattle.df_book.specs.declared.draw.Draw.{Draw}
use Rattle.df_book.proofs.Sums.{Each-map, hit-else}
use Rattle.df_book.proofs.Logs.{within-trans}
use Rattle.df_end.specs.Logs.{logs_in, entries_in}
use Rattle.df_end.specs.Calls.{Row, draws_in, Came, CallLeft, Follows, item_of, with_item, items_of}
use Rattle.df_model.specs.Spoken.{Session, Spoke}
use Rattle.df_end.specs.Sessions.{Gone, SessionLeft, sessions_in}
use Rattle.df_end.specs.Ended.{RunLeft}
use Rattle.df_end.specs.Promise.{of_session, IsPlace, session_at, floor_at, drawn_in, list_of, SaveShows, Promise}
use Rattle.df_end.proofs.EntryLaws.{each-has, entries-same, came-same}
use Rattle.df_end.proofs.RowLaws.{reply_or, reply_at, has-draws, row-of, Found, found, call-none, reply-none, at-agreed, most-once, all_rows, all-draws, has-row, whose-row, made-of, same-session, follows}

ltb-no : (a b : ℕ) → b ≤ a → ltb a b ≡ false
ltb-no a b le = go (ltb a b) refl
  where
    go : (t : Bool) → ltb a b ≡ t → ltb a b ≡ false
    go true i = absurd (omega (arith, le, ltb-true a b i))
    go false i = i

module _ (shards : ℕ) (K : Keyspace) (c : Closed) (first : Caller) (gone : List Gone) (passes : List Shard)
    (e : RunLeft shards K c first gone passes) where
  laws : Laws (calls shards)
  laws = calls_laws shards e.some

  abbrev rows : List Row
  rows = all_rows gone

  abbrev call_of : ℕ → Call
  call_of = call_at c.draws

  abbrev logs : ℕ → List Entry
  logs = logs_in shards c.logs

  abbrev replies : ℕ → Reply
  replies = reply_at rows

  drawn : c.draws ≡ draws_in rows
  drawn = e.draws.0 ∙ e.lobby.own ∙ all-draws shards gone e.lobby.left

  once : (n : ℕ) → draws_of n c.draws ≤ 1
  once = most-once c.draws e.settled.numbered

  -- ---- what each call left, over the closed logs

  module _ (g : Gone) (r : Row) (hg : Has gone g) (hr : Has g.rows r) where
    left : SessionLeft shards g
    left = each-has (SessionLeft shards) gone g e.lobby.left hg

    mine : 0 < draws_of r.draw.number g.pass.own
    mine = subst (λ l. 0 < draws_of r.draw.number l) (sym left.holds.own) (has-draws g.rows r hr)

    made : count r.draw.number c.made ≡ count r.draw.number g.pass.made
    made =
        ap (count r.draw.number) (e.draws.1 ∙ e.lobby.made)
        ∙ made-of shards r.draw.number gone e.lobby.left
        (subst (λ l. draws_of r.draw.number l ≤ 1) (e.draws.0 ∙ e.lobby.own) (once r.draw.number)) g hg mine

    pub same-entries : entries_in shards g.pass.seen r.draw.number ≡ entries_in shards c.logs r.draw.number
    same-entries =
        let was = each-has (CallLeft shards g.pass) g.rows r left.holds.left hr in
        entries-same shards r.draw.number g.pass.seen c.logs
        (within-trans g.pass.seen first.seen c.logs
        (each-has (λ (x : Gone). Within x.pass.seen first.seen) gone g e.lobby.seen hg) e.seen)
        (omega (arith, e.settled.tickets r.draw.number (shards + 1), made, was.used))

    pub came : Came shards c.logs r.draw r.reply
    came =
        came-same shards g.pass.seen c.logs r.draw r.reply same-entries (each-has (CallLeft shards g.pass) g.rows r left.holds.left hr).came

  came-of : (r : Row) → Has rows r → Came shards c.logs r.draw r.reply
  came-of r h = let w = whose-row shards gone r h in came w.0 r w.1 w.2

  found-of : (r : Row) → Has rows r → Found rows r
  found-of r h = found rows (λ n. subst (λ l. draws_of n l ≤ 1) drawn (once n)) r h

  -- ---- logs

  log-range : (s : ℕ) (f : Entry) → Has (logs s) f → (0 < f.number) × (f.number ≤ length c.draws)
  log-range s f h = go (ltb s shards) h
    where
      go : (b : Bool) → Has (if b then acts_of (at_log c.logs s) else []) f → (0 < f.number) × (f.number ≤ length c.draws)
      go false h = absurd h
      go true h = each-has (λ (y : Entry). (0 < y.number) × (y.number ≤ length c.draws)) (at_log c.logs s) f (e.settled.drawn s)
          (has_only (λ (y : Entry). not (is_note y.act)) (at_log c.logs s) f h).0

  logs-within : (s : ℕ) → shards ≤ s → logs s ≡ []
  logs-within s le = go (ltb s shards) refl
    where
      go : (b : Bool) → ltb s shards ≡ b → (if b then acts_of (at_log c.logs s) else []) ≡ []
      go false i = refl
      go true i = absurd (omega (arith, le, ltb-true s shards i))

  -- ---- who was executed

  abbrev executed : ℕ → Bool
  executed = order.executed (calls shards) call_of logs

  some-false : (n t : ℕ) → ((s : ℕ) → own (calls shards) n (logs s) ≡ []) → order.some_entry (calls shards) logs n t ≡ false
  some-false n zero none = refl
  some-false n (suc t) none = λ j. not (order.is_nil (none t j)) || some-false n t none j

  named-false : (call : Call) → NamesAShard shards call → names_none (calls shards) call shards ≡ false
  named-false call names = go (names_none (calls shards) call shards) refl
    where
      go : (b : Bool) → names_none (calls shards) call shards ≡ b → b ≡ false
      go false i = refl
      go true i = absurd (names.1 (elim (cases_lt names.0 shards) [
        | inl lt ↦ names_none_at (calls shards) call shards i names.0 lt
        | inr ge ↦ laws.within call names.0 ge
      ]))

  -- a number was executed exactly where its row has a reply
  executed-by : (d : Draw) (reply : Option Reply) → call_of d.number ≡ d.call → Came shards c.logs d reply → executed d.number ≡ is_some reply
  executed-by d None is gave =
      (λ j. names_none (calls shards) (is j) shards || order.some_entry (calls shards) logs d.number shards)
      ∙ (λ j. named-false d.call gave.0 j || some-false d.number shards gave.1 j)
  executed-by d (Some reply) is gave = go (order.some_entry (calls shards) logs d.number shards) refl
    where
      go : (b : Bool) → order.some_entry (calls shards) logs d.number shards ≡ b → executed d.number ≡ true
      go true i = or_right (names_none (calls shards) (call_of d.number) shards) (order.some_entry (calls shards) logs d.number shards) i
      go false i = or_left (names_none (calls shards) (call_of d.number) shards) (order.some_entry (calls shards) logs d.number shards)
          (ap (λ x. names_none (calls shards) x shards) is
          ∙ laws.whole_some d.call (order.entries (calls shards) logs d.number) (reply, gave)
          (none_all (calls shards) logs logs-within d.number i))

  executed-is : (r : Row) → Has rows r → executed r.draw.number ≡ is_some r.reply
  executed-is r h = executed-by r.draw r.reply
      (subst (λ l. call_at l r.draw.number ≡ r.draw.call) (sym drawn) (found-of r h).call) (came-of r h)

  -- ---- the premises of the one history

  -- a shard's log and calls, as the closed book has them
  shard-now : (s : ℕ) → s < shards → (state : Part) × (ran : ℕ) × Kept (calls shards) call_of s (part_of shards K s)
      record { state = state; holders = []; queue = []; ran = ran; log = acts_of (at_log c.logs s) }
  shard-now s lt =
      let v = e.parts s lt in
      let p = v.0 in
      let known = each-has (λ (p : Shard). Each (IsDraw c.draws) p.known) passes p e.known v.1 in
      let still : (f : Entry) → Has (acts_of p.log) f → call_at p.known f.number ≡ call_of f.number = λ f h.
      at-agreed c.draws p.known f.number
      (Each-map (IsDraw c.draws) (λ (d : Draw). call_at c.draws d.number ≡ d.call) (λ d q. q.1) p.known known)
      (each-has (λ (f : Entry). 0 < draws_of f.number p.known) p.log f v.3.known
      (has_only (λ (y : Entry). not (is_note y.act)) p.log f h).0) in
      let was : Kept (calls shards) call_of p.shard (part_of shards K p.shard)
      record { state = v.3.state; holders = []; queue = []; ran = v.3.ran; log = acts_of p.log } =
      kept_calls (calls shards) (call_at p.known) call_of p.shard (part_of shards K p.shard)
      record { state = v.3.state; holders = []; queue = []; ran = v.3.ran; log = acts_of p.log } (λ q h. absurd h) still v.3.kept in
      let log : p.log ≡ at_log c.logs p.shard = sym (each-has (λ (p : Shard). at_log c.logs p.shard ≡ p.log) passes p e.whole v.1) in (
        v.3.state,
        v.3.ran,
        subst (λ t. Kept (calls shards) call_of t (part_of shards K t)
            record { state = v.3.state; holders = []; queue = []; ran = v.3.ran; log = acts_of (at_log c.logs t) }) v.2
            (subst (λ l. Kept (calls shards) call_of p.shard (part_of shards K p.shard)
            record { state = v.3.state; holders = []; queue = []; ran = v.3.ran; log = acts_of l }) log was),
      )

  in-order : (s : ℕ) → IsInOrder (calls shards) call_of s (logs s)
  in-order s = go (ltb s shards) refl
    where
      go : (b : Bool) → ltb s shards ≡ b → IsInOrder (calls shards) call_of s (if b then acts_of (at_log c.logs s) else [])
      go false i = tt
      go true i = (shard-now s (ltb-true s shards i)).2.in_order

  telling : (s : ℕ) → TellAll (calls shards) call_of s (part_of shards K s) (logs s)
  telling s = go (ltb s shards) refl
    where
      go : (b : Bool) → ltb s shards ≡ b → TellAll (calls shards) call_of s (part_of shards K s) (if b then acts_of (at_log c.logs s) else [])
      go false i = tt
      go true i = fit_tells (calls shards) call_of s (part_of shards K s) (acts_of (at_log c.logs s)) (shard-now s (ltb-true s shards i)).2.fitting

  complete-row : (d : Draw) (reply : Option Reply) → Came shards c.logs d reply → is_some reply ≡ true →
      (calls shards).Gives d.call (entries_in shards c.logs d.number) (reply_or reply)
  complete-row d None gave h = absurd (false≢true h)
  complete-row d (Some reply) gave h = gave

  complete : (n : ℕ) → executed n ≡ true → (calls shards).Gives (call_of n) (order.entries (calls shards) logs n) (replies n)
  complete n ran = dite (dec_le 1 (draws_of n (draws_in rows)))
      (λ some.
      let v = row-of rows n some in
      let r = v.0 in
      let f = found-of r v.1 in
      let is : call_of n ≡ r.draw.call = ap call_of (sym v.2) ∙ subst (λ l. call_at l r.draw.number ≡ r.draw.call) (sym drawn) f.call in
      let given : replies n ≡ reply_or r.reply = ap replies (sym v.2) ∙ f.reply in
      let done = complete-row r.draw r.reply (came-of r v.1) (sym (executed-is r v.1) ∙ ap executed v.2 ∙ ran) in
      subst (λ (q : Call × Reply). (calls shards).Gives q.0 (order.entries (calls shards) logs n) q.1) (λ j. (sym is j, sym given j))
      (subst (λ m. (calls shards).Gives r.draw.call (entries_in shards c.logs m) (reply_or r.reply)) v.2 done))
      (λ none.
      let zero-drawn : draws_of n (draws_in rows) ≡ 0 = omega (arith, lt_of_not-le none) in
      let is : call_of n ≡ call_at [] n = ap (λ l. call_at l n) drawn ∙ call-none (draws_in rows) n zero-drawn in
      let given : replies n ≡ Array (all_of []) = reply-none rows n zero-drawn in
      subst (λ (q : Call × Reply). (calls shards).Gives q.0 (order.entries (calls shards) logs n) q.1) (λ j. (sym is j, sym given j))
      ([], [], refl, λ s. ap (map _) (empty s zero-drawn)))
    where
      empty : (s : ℕ) → draws_of n (draws_in rows) ≡ 0 → order.entries (calls shards) logs n s ≡ []
      empty s z = nil_none (own (calls shards) n (logs s)) (λ f h.
          let o = has_own (calls shards) n (logs s) f h in
          let range = log-range s f o.0 in
          absurd (omega (
            arith,
            e.settled.numbered.once n (omega (arith, range.0, o.1)) (omega (arith, range.1, o.1)),
            z,
            ap (draws_of n) drawn,
          )))

  recorded : order.Recorded (calls shards) call_of (length c.draws) (part_of shards K) logs replies
  recorded = record {
    in_order = in-order;
    telling = telling;
    clean = λ s n call key w. refl;
    drawn = log-range;
    within = logs-within;
    complete = complete;
  }

  pub legal-list : IsLegal K (list_of shards c replies)
  legal-list = subst (λ J. IsLegal J (list_of shards c replies)) (joined_parts shards e.some K)
      (one_history calls_laws shards e.some (drawn_in c.draws) (length c.draws) (part_of shards K) logs replies recorded)

  -- ---- who drew each number

  abbrev count-drawn : ℕ
  count-drawn = length c.draws

  pub record Drawer (n : ℕ) : Type 0 where
    pub gone-one : Gone
    pub row : Row
    pub is-gone : Has gone gone-one
    pub is-row : Has gone-one.rows row
    pub number : row.draw.number ≡ n
    pub call : call_of n ≡ row.draw.call
    pub session : session_at c.draws n ≡ gone-one.session.id
    pub floor : floor_at c.draws n ≡ row.draw.floor
    pub below : row.draw.floor < n
    pub ran : executed n ≡ is_some row.reply

  drawer-of : (g : Gone) (r : Row) → Has gone g → Has g.rows r → (n : ℕ) → r.draw.number ≡ n → Drawer n
  drawer-of g r hg hr n i =
      let h = has-row shards gone g r hg hr in
      let f = found-of r h in
      let mine = each-has (λ (r : Row). (r.draw.session ≡ g.session.id) × (r.draw.floor < r.draw.number)) g.rows r (left g r hg hr).holds.mine hr in
      record {
        gone-one = g;
        row = r;
        is-gone = hg;
        is-row = hr;
        number = i;
        call = ap call_of (sym i) ∙ subst (λ l. call_at l r.draw.number ≡ r.draw.call) (sym drawn) f.call;
        session = ap (session_at c.draws) (sym i) ∙ subst (λ l. session_at l r.draw.number ≡ r.draw.session) (sym drawn) f.session ∙ mine.0;
        floor = ap (floor_at c.draws) (sym i) ∙ subst (λ l. floor_at l r.draw.number ≡ r.draw.floor) (sym drawn) f.floor;
        below = omega (arith, i, mine.1);
        ran = ap executed (sym i) ∙ executed-is r h;
      }

  drawer : (n : ℕ) → 0 < n → n ≤ count-drawn → Drawer n
  drawer n pos le =
      let v = row-of rows n (omega (arith, e.settled.numbered.once n pos le, ap (draws_of n) drawn)) in
      let w = whose-row shards gone v.0 v.1 in
      drawer-of w.0 v.0 w.1 w.2 n v.2

  -- ---- the order of the list

  floors : (n : ℕ) → 0 < n → n ≤ count-drawn → floor_at c.draws n < n
  floors n pos le = let d = drawer n pos le in omega (arith, d.floor, d.below)

  told : (n m : ℕ) → 0 < n → n < m → m ≤ count-drawn → session_at c.draws m ≡ session_at c.draws n → executed n ≡ true →
      NamesAShard shards (call_of n) → n ≤ floor_at c.draws m
  told n m pos lt le same ran names =
      let a = drawer n pos (omega (arith, lt, le)) in
      let b = drawer m (omega (arith, pos, lt)) le in
      let one = same-session shards gone e.lobby.left
      (λ i. subst (λ l. count i l ≤ 1) e.lobby.places (e.once i)) b.gone-one a.gone-one b.is-gone a.is-gone
      (sym b.session ∙ same ∙ a.session) in
      let f = follows shards a.gone-one.rows (left a.gone-one a.row a.is-gone a.is-row).holds.follow a.row b.row a.is-row
      (subst (λ g. Has g.rows b.row) one b.is-row) (omega (arith, a.number, b.number, lt)) in
      omega (
        arith,
        f.seen (sym a.ran ∙ ran) (subst (λ call. NamesAShard shards call) a.call names),
        a.number,
        b.floor,
      )

  abbrev one : ℕ → order.Item (calls shards)
  one n = order.item (calls shards) call_of logs replies n

  abbrev from_on : ℕ → ℕ → List (order.Item (calls shards))
  from_on n count = order.items_where (calls shards) call_of logs replies executed n count

  abbrev with_drawn : List (order.Item (calls shards)) → List Item
  with_drawn items = map (with_draw shards (drawn_in c.draws)) items

  all-items : (P : Item → Type 0) (n count : ℕ) →
      ((m : ℕ) → n ≤ m → m < n + count → P (with_draw shards (drawn_in c.draws) (one m))) →
      AllByRecursion P (with_drawn (from_on n count))
  all-items P n zero f = tt
  all-items P n (suc count) f = go (executed n) (all-items P (suc n) count (λ m le lt. f m (omega (arith, le)) (omega (arith, lt))))
    where
      go : (b : Bool) → AllByRecursion P (with_drawn (from_on (suc n) count)) →
          AllByRecursion P (with_drawn (cons_if b (one n) (from_on (suc n) count)))
      go true rest = (f n (omega arith) (omega arith), rest)
      go false rest = rest

  rises : (last n count : ℕ) → last < n → 0 < n → n + count ≤ suc count-drawn → RisesFrom last (with_drawn (from_on n count))
  rises last n zero lt pos le = tt
  rises last n (suc count) lt pos le = go (executed n) (λ below lt'. rises below (suc n) count lt' (omega arith) (omega (arith, le)))
    where
      go : (b : Bool) → ((below : ℕ) → below < suc n → RisesFrom below (with_drawn (from_on (suc n) count))) →
          RisesFrom last (with_drawn (cons_if b (one n) (from_on (suc n) count)))
      go true rest = (lt, floors n pos (omega (arith, le)), rest n (omega arith))
      go false rest = rest last (omega (arith, lt))

  sees : (n count : ℕ) → 0 < n → n + count ≤ suc count-drawn → SeesItsOwn (NamesAShard shards) (with_drawn (from_on n count))
  sees n zero pos le = tt
  sees n (suc count) pos le = go (executed n) refl (sees (suc n) count (omega arith) (omega (arith, le)))
    where
      go : (b : Bool) → executed n ≡ b → SeesItsOwn (NamesAShard shards) (with_drawn (from_on (suc n) count)) →
          SeesItsOwn (NamesAShard shards) (with_drawn (cons_if b (one n) (from_on (suc n) count)))
      go true f rest = (
        λ names. all-items (λ i. i.session ≡ session_at c.draws n → n ≤ i.floor) (suc n) count
            (λ m le' lt' same. told n m pos (omega (arith, le')) (omega (arith, lt', le)) same f names),
        rest,
      )
      go false f rest = rest

  pub in-turn : IsOrdered (NamesAShard shards) (list_of shards c replies)
  in-turn = record {
    rises = rises 0 1 count-drawn (omega arith) (omega arith) (omega arith);
    sees_its_own = sees 1 count-drawn (omega arith) (omega arith);
  }

  -- ---- places

  place-in : (all : List Gone) (g : Gone) → Has all g → (n : ℕ) → n ≡ g.session.id → IsPlace (sessions_in all) n
  place-in [] g h n i = absurd h
  place-in (x ∷ all) g (inl p) n i = (x.session, inl refl, ap (λ y. y.session.id) p ∙ sym i)
  place-in (x ∷ all) g (inr h) n i = let v = place-in all g h n i in (v.0, inr v.1, v.2)

  pub placed : AllByRecursion (λ (i : Item). IsPlace (sessions_in gone) i.session) (list_of shards c replies)
  placed = all-items (λ i. IsPlace (sessions_in gone) i.session) 1 count-drawn
      (λ m le lt. let d = drawer m (omega (arith, le)) (omega (arith, lt)) in place-in gone d.gone-one d.is-gone (session_at c.draws m) d.session)

  each-of : {X : Type 0} (P : X → Type 0) (l : List X) → ((x : X) → Has l x → P x) → Each P l
  each-of P [] f = tt
  each-of P (x ∷ l) f = (f x (inl refl), each-of P l (λ y h. f y (inr h)))

  has-draw : (rs : List Row) (d : Draw) → Has (draws_in rs) d → (r : Row) × Has rs r × (r.draw ≡ d)
  has-draw [] d h = absurd h
  has-draw (r ∷ rs) d (inl i) = (r, inl refl, i)
  has-draw (r ∷ rs) d (inr h) = let v = has-draw rs d h in (v.0, inr v.1, v.2)

  pub all-placed : Each (λ (d : Draw). IsPlace (sessions_in gone) d.session) c.draws
  all-placed = each-of (λ (d : Draw). IsPlace (sessions_in gone) d.session) c.draws (λ d h.
      let v = has-draw rows d (subst (λ l. Has l d) drawn h) in
      let w = whose-row shards gone v.0 v.1 in
      place-in gone w.0 w.1 d.session
      (ap (λ x. x.session) (sym v.2)
      ∙ (each-has (λ (r : Row). (r.draw.session ≡ w.0.session.id) × (r.draw.floor < r.draw.number)) w.0.rows v.0 (left w.0 v.0 w.1 w.2).holds.mine w.2).0))

  -- ---- the items of one session

  module _ (g : Gone) (hg : Has gone g) where
    -- an item of another session
    skip : (n count : ℕ) → session_at c.draws n ≢ g.session.id →
        of_session g.session.id (with_drawn (from_on n (suc count))) ≡ of_session g.session.id (with_drawn (from_on (suc n) count))
    skip n count ne = go (executed n)
      where
        go : (b : Bool) → of_session g.session.id (with_drawn (cons_if b (one n) (from_on (suc n) count))) ≡ of_session g.session.id (with_drawn (from_on (suc n) count))
        go false = refl
        go true = ap (λ b. cons_if b (with_draw shards (drawn_in c.draws) (one n)) (of_session g.session.id (with_drawn (from_on (suc n) count))))
            (ne_eqb (session_at c.draws n) g.session.id ne)

    -- the item of a row
    take : (n count : ℕ) (r : Row) → Has g.rows r → r.draw.number ≡ n →
        of_session g.session.id (with_drawn (from_on n (suc count))) ≡ with_item shards c.logs r.draw r.reply (of_session g.session.id (with_drawn (from_on (suc n) count)))
    take n count r hr i = go r.reply refl
      where
        d : Drawer n
        d = drawer-of g r hg hr n i

        rest : List Item
        rest = of_session g.session.id (with_drawn (from_on (suc n) count))

        go : (o : Option Reply) → r.reply ≡ o → of_session g.session.id (with_drawn (from_on n (suc count))) ≡ with_item shards c.logs r.draw r.reply (of_session g.session.id (with_drawn (from_on (suc n) count)))
        go None is =
            ap (λ b. of_session g.session.id (with_drawn (cons_if b (one n) (from_on (suc n) count)))) (ap executed (sym i) ∙ executed-is r (has-row shards gone g r hg hr) ∙ ap is_some is)
            ∙ ap (λ o. with_item shards c.logs r.draw o (of_session g.session.id (with_drawn (from_on (suc n) count)))) (sym is)
        go (Some reply) is =
            let f = found-of r (has-row shards gone g r hg hr) in
            let mine = each-has (λ (r : Row). (r.draw.session ≡ g.session.id) × (r.draw.floor < r.draw.number)) g.rows r (left g r hg hr).holds.mine hr in
            let session : session_at c.draws n ≡ r.draw.session = ap (session_at c.draws) (sym i) ∙ subst (λ l. session_at l r.draw.number ≡ r.draw.session) (sym drawn) f.session in
            let call : call_of n ≡ r.draw.call = ap call_of (sym i) ∙ subst (λ l. call_at l r.draw.number ≡ r.draw.call) (sym drawn) f.call in
            let floor : floor_at c.draws n ≡ r.draw.floor = ap (floor_at c.draws) (sym i) ∙ subst (λ l. floor_at l r.draw.number ≡ r.draw.floor) (sym drawn) f.floor in
            let given : replies n ≡ reply = ap replies (sym i) ∙ f.reply ∙ ap reply_or is in
            let number : n ≡ r.draw.number = sym i in
            let same : with_draw shards (drawn_in c.draws) (one n) ≡ item_of shards c.logs r.draw reply = λ j. record {
              session = session j;
              number = number j;
              call = call j;
              marks = (calls shards).marks (call j) (entries_in shards c.logs (number j));
              floor = floor j;
              reply = given j;
            } in
            ap (λ b. of_session g.session.id (with_drawn (cons_if b (one n) (from_on (suc n) count)))) (ap executed (sym i) ∙ executed-is r (has-row shards gone g r hg hr) ∙ ap is_some is)
            ∙ ap (λ b. cons_if b (with_draw shards (drawn_in c.draws) (one n)) (of_session g.session.id (with_drawn (from_on (suc n) count)))) (eq-eqb (session_at c.draws n) g.session.id (session ∙ mine.0))
            ∙ ap (λ x. x ∷ of_session g.session.id (with_drawn (from_on (suc n) count))) same
            ∙ ap (λ o. with_item shards c.logs r.draw o (of_session g.session.id (with_drawn (from_on (suc n) count)))) (sym is)

    -- these rows are the session's of the numbers from n on
    pub record Covers (n count : ℕ) (rs : List Row) : Type 0 where
      pub ours : (r : Row) → Has rs r → Has g.rows r
      pub range : (r : Row) → Has rs r → (n ≤ r.draw.number) × (r.draw.number < n + count)
      pub all : (m : ℕ) → n ≤ m → m < n + count → session_at c.draws m ≡ g.session.id → (r : Row) × Has rs r × (r.draw.number ≡ m)

    pick : (n count : ℕ) (rs : List Row) → Chain (Follows shards) rs → Covers n count rs →
        of_session g.session.id (with_drawn (from_on n count)) ≡ items_of shards c.logs rs
    pick n zero [] chain cov = refl
    pick n zero (r ∷ rs) chain cov = let v = cov.range r (inl refl) in absurd (omega (arith, v.0, v.1))
    pick n (suc count) [] chain cov =
        skip n count (λ i. absurd (cov.all n (omega arith) (omega arith) i).1)
        ∙ pick (suc n) count [] tt record { ours = λ r h. absurd h; range = λ r h. absurd h; all = λ m le lt i. cov.all m (omega (arith, le)) (omega (arith, lt)) i }
    pick n (suc count) (r ∷ rs) chain cov = dite (ℕ_discrete r.draw.number n)
        (λ (is : r.draw.number ≡ n).
        take n count r (cov.ours r (inl refl)) is
        ∙ ap (with_item shards c.logs r.draw r.reply) (pick (suc n) count rs chain.1 record {
          ours = λ q h. cov.ours q (inr h);
          range = λ q h. (omega (arith, (chain.0 q h).above, is), omega (arith, (cov.range q (inr h)).1));
          all = λ m le lt i. behind m (omega (arith, is, le)) (cov.all m (omega (arith, le)) (omega (arith, lt)) i);
        }))
        (λ (ne : r.draw.number ≢ n).
        skip n count (λ i. none-here ne (cov.all n (omega arith) (omega arith) i))
        ∙ pick (suc n) count (r ∷ rs) chain record {
          ours = cov.ours;
          range = λ q h. (above ne q h, omega (arith, (cov.range q h).1));
          all = λ m le lt i. cov.all m (omega (arith, le)) (omega (arith, lt)) i;
        })
      where
        behind : (m : ℕ) → r.draw.number < m → (q : Row) × Has (r ∷ rs) q × (q.draw.number ≡ m) → (q : Row) × Has rs q × (q.draw.number ≡ m)
        behind m lt (q, inl h, i) = absurd (omega (arith, lt, i, ap (λ y. y.draw.number) h))
        behind m lt (q, inr h, i) = (q, h, i)

        apart : (a b : ℕ) → b ≤ a → a ≢ b → suc b ≤ a
        apart a b le ne = dite (dec_le (suc b) a) (λ y. y) (λ z. absurd (ne (omega (arith, le, lt_of_not-le z))))

        first-above : r.draw.number ≢ n → suc n ≤ r.draw.number
        first-above ne = apart r.draw.number n (cov.range r (inl refl)).0 ne

        above : r.draw.number ≢ n → (q : Row) → Has (r ∷ rs) q → suc n ≤ q.draw.number
        above ne q (inl h) = omega (arith, first-above ne, ap (λ y. y.draw.number) h)
        above ne q (inr h) = omega (arith, first-above ne, (chain.0 q h).above)

        none-here : r.draw.number ≢ n → (q : Row) × Has (r ∷ rs) q × (q.draw.number ≡ n) → ⊥
        none-here ne v = omega (arith, above ne v.0 v.1, v.2)

    own-items : of_session g.session.id (list_of shards c replies) ≡ items_of shards c.logs g.rows
    own-items = pick 1 count-drawn g.rows (kept g hg).holds.follow record {
      ours = λ r h. h;
      range = λ r h. in-range r h;
      all = λ m le lt i.
          (let d = drawer m (omega (arith, le)) (omega (arith, lt)) in
          let one = same-session shards gone e.lobby.left
          (λ i. subst (λ l. count i l ≤ 1) e.lobby.places (e.once i)) d.gone-one g d.is-gone hg (sym d.session ∙ i) in
          (d.row, subst (λ x. Has x.rows d.row) one d.is-row, d.number));
    }
      where
        kept : (g : Gone) → Has gone g → SessionLeft shards g
        kept g h = each-has (SessionLeft shards) gone g e.lobby.left h

        in-range : (r : Row) → Has g.rows r → (1 ≤ r.draw.number) × (r.draw.number < 1 + count-drawn)
        in-range r h = range-in c.draws e.settled.numbered.range r.draw.number
            (subst (λ l. 0 < draws_of r.draw.number l) (sym drawn) (has-draws rows r (has-row shards gone g r hg h)))
          where
            range-in : (ds : List Draw) → Each (λ (d : Draw). (0 < d.number) × (d.number ≤ count-drawn)) ds → (n : ℕ) → 0 < draws_of n ds → (1 ≤ n) × (n < 1 + count-drawn)
            range-in [] e n h = absurd (omega (arith, h))
            range-in (d ∷ ds) e n h = dite (ℕ_discrete d.number n)
                (λ (is : d.number ≡ n). (omega (arith, is, e.0.0), omega (arith, is, e.0.1)))
                (λ (ne : d.number ≢ n). range-in ds e.1 n (omega (arith, h, hit-else n d.number ne)))

    -- they are the items that the session knows
    known-items : (rs : List Row) → ((r : Row) → Has rs r → Has g.rows r) → items_of shards g.pass.seen rs ≡ items_of shards c.logs rs
    known-items [] h = refl
    known-items (r ∷ rs) h =
        one-item r.draw r.reply (same-entries g r hg (h r (inl refl))) (known-items rs (λ q k. h q (inr k)))
      where
        one-item : (d : Draw) (o : Option Reply) → entries_in shards g.pass.seen d.number ≡ entries_in shards c.logs d.number →
            items_of shards g.pass.seen rs ≡ items_of shards c.logs rs →
            with_item shards g.pass.seen d o (items_of shards g.pass.seen rs) ≡ with_item shards c.logs d o (items_of shards c.logs rs)
        one-item d None i k = k
        one-item d (Some reply) i k = λ j. record {
          session = d.session;
          number = d.number;
          call = d.call;
          marks = (calls shards).marks d.call (i j);
          floor = d.floor;
          reply = reply;
        } ∷ k j

    pub session-spoke : Spoke g.session (of_session g.session.id (list_of shards c replies))
    session-spoke = subst (Spoke g.session) (known-items g.rows (λ r h. h) ∙ sym own-items)
        (each-has (SessionLeft shards) gone g e.lobby.left hg).spoke

  each-session : (gs : List Gone) → ((g : Gone) → Has gs g → Has gone g) →
      AllByRecursion (λ (w : Session). Spoke w (of_session w.id (list_of shards c replies))) (sessions_in gs)
  each-session [] h = tt
  each-session (g ∷ gs) h = (session-spoke g (h g (inl refl)), each-session gs (λ x k. h x (inr k)))

  -- ---- saves

  -- the items below a number are those of the numbers up to it
  low-items : (m n count : ℕ) → 0 < n → suc m ≡ n + count → (more : ℕ) → only (λ i. ltb i.number (suc m)) (with_drawn (from_on n (count + more))) ≡ with_drawn (from_on n count)
  low-items m n zero pos is more = none-low n (zero + more) (omega (arith, is))
    where
      none-low : (k total : ℕ) → suc m ≤ k → only (λ i. ltb i.number (suc m)) (with_drawn (from_on k total)) ≡ []
      none-low k zero le = refl
      none-low k (suc total) le = go (executed k) (none-low (suc k) total (omega (arith, le)))
        where
          go : (b : Bool) → only (λ i. ltb i.number (suc m)) (with_drawn (from_on (suc k) total)) ≡ [] →
              only (λ i. ltb i.number (suc m)) (with_drawn (cons_if b (one k) (from_on (suc k) total))) ≡ []
          go true e = ap (λ b. cons_if b (with_draw shards (drawn_in c.draws) (one k)) (only (λ i. ltb i.number (suc m)) (with_drawn (from_on (suc k) total)))) (ltb-no k (suc m) le) ∙ e
          go false e = e
  low-items m n (suc count) pos is more =
      ap (λ t. only (λ i. ltb i.number (suc m)) (with_drawn (from_on n t))) (let e : suc count + more ≡ suc (count + more) = omega arith in e)
      ∙ go (executed n) (low-items m (suc n) count (omega arith) (omega (arith, is)) more)
    where
      go : (b : Bool) → only (λ i. ltb i.number (suc m)) (with_drawn (from_on (suc n) (count + more))) ≡ with_drawn (from_on (suc n) count) →
          only (λ i. ltb i.number (suc m)) (with_drawn (cons_if b (one n) (from_on (suc n) (count + more)))) ≡ with_drawn (cons_if b (one n) (from_on (suc n) count))
      go true e = ap (λ b. cons_if b (with_draw shards (drawn_in c.draws) (one n)) (only (λ i. ltb i.number (suc m)) (with_drawn (from_on (suc n) (count + more))))) (lt-ltb n (suc m) (omega (arith, is)))
          ∙ ap (λ l. with_draw shards (drawn_in c.draws) (one n) ∷ l) e
      go false e = e

  save-shows : (n : ℕ) → call_of n ≡ Single (Whole wholes.Save) → 0 < n → n ≤ count-drawn → SaveShows shards K c replies n
  save-shows zero is pos le = absurd (omega (arith, pos))
  save-shows (suc m) is pos le =
      let w = saves_stand calls_laws shards e.some (drawn_in c.draws) count-drawn (part_of shards K) logs replies recorded (suc m) (omega arith) le is in
      let rest : (more : ℕ) × (count-drawn ≡ m + more) = split m count-drawn (omega (arith, le)) in
      let same = ap (λ t. only (λ i. ltb i.number (suc m)) (with_drawn (from_on 1 t))) rest.1 ∙ low-items m 1 m (omega arith) (omega arith) rest.0 in
      record {
        keyspace = w.keyspace;
        reached = subst (λ (q : Keyspace × List Item). Leads q.0 q.1 w.keyspace) (λ j. (joined_parts shards e.some K j, sym same j)) w.reached;
        cuts = w.cuts;
      }
    where
      split : (a b : ℕ) → a ≤ b → (more : ℕ) × (b ≡ a + more)
      split zero b le = (b, omega arith)
      split (suc a) zero le = absurd (omega (arith, le))
      split (suc a) (suc b) le = let v = split a b (omega (arith, le)) in (v.0, omega (arith, v.1))

  pub promise-kept : Promise shards K c (sessions_in gone)
  promise-kept = record {
    replies = replies;
    list = record { legal = legal-list; ordered = in-turn; spoke = each-session gone (λ g h. h); placed = placed };
    saves = save-shows;
    drawn = all-placed;
    entered = e.settled.drawn;
  }
