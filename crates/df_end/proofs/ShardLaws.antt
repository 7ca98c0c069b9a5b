-- What a shard keeps, step by step, and what it hands out at its end.
use Rattle.std.proofs.Common.{◌≡◌, ◌≢◌, ℕ, ◌+◌, ◌<◌, ◌≤◌, Bool, true, false, not, cond, eqb, List, [], ◌∷◌, ◌++◌, inl, inr, refl, sym, ap, ◌∙◌, subst, arith, append-nil, eq-eqb, ne_eqb}
use Rattle.std.proofs.lemmas.Bool.{false≢true}
use Rattle.std.specs.Prelude.{if◌then◌else◌, ltb}
use mathlib.Core.Logic.{dite}
use native.Mathlib.Decide.{ℕ_discrete}
use Rattle.df_model.specs.Keyspace.{Keyspace}
use Rattle.df_order.specs.Lists.{Has, cons_if, only}
use Rattle.df_order.specs.Shards as order
use Rattle.df_order.specs.Shards.{Kept, Holder, is_free, enter}
use Rattle.df_order.proofs.Lists.{nil_none, has_only, only_append}
use Rattle.df_order.proofs.ShardKept.{kept_calls, kept_first, kept_enqueue, kept_leave, kept_hop, kept_at_once, kept_good}
use Rattle.df_log.specs.Entries.{is_note, acts_of}
use Rattle.df_log.specs.declared.entry.Entry.{Entry}
use Rattle.df_core.specs.Calls.{calls}
use Rattle.df_core.proofs.CallsLaws.{calls_laws}
use Rattle.df_book.specs.Weights.{hit, Each}
use Rattle.df_book.specs.Logs.{use_of, uses_of}
use Rattle.df_book.specs.Draws.{draws_of, call_at}
use Rattle.df_book.specs.Passes.{Shard, after_entry}
use Rattle.df_book.specs.declared.draw.Draw.{Draw}
use Rattle.df_book.proofs.Sums.{Each-map, Each-append, total-append, hit-else}
use Rattle.df_end.specs.Shards.{ShardHolds, loaded}
use Rattle.df_end.specs.ShardSteps.{ShardsTakeTickets, ShardsLetWait, ShardsLetGo, ArmedHasRoom, HopsAreFresh, ShardsRunInTurn, ShardsRunAtOnce, ShardsNote, StagedStaysOwn}
use Rattle.df_end.specs.Laws.{LobbiesBegin, SessionsBegin, ShardsBegin, ShardsEnd}
use Rattle.df_end.proofs.EntryLaws.{each-has}

pub shards_end : ShardsEnd
shards_end shards K first armed p x h none keys = record {
  state = x.state;
  ran = x.ran;
  kept = subst (λ J. Kept (calls shards) (call_at p.known) p.shard (loaded J)
      record { state = x.state; holders = []; queue = []; ran = x.ran; log = acts_of p.log }) keys
      (subst (λ (q : List (Holder (calls shards)) × List order.Place × List Entry). Kept (calls shards) (call_at p.known) p.shard (loaded first)
      record { state = x.state; holders = q.0; queue = q.1; ran = x.ran; log = q.2 })
      (λ j. (no-holders j, none j, h.log j)) h.kept);
  known = h.known;
}
  where
    no-holders : x.holders ≡ []
    no-holders = nil_none x.holders (λ k m. let v = (h.kept.holding k m).0 in subst (λ l. Has l v.0) none v.1)

-- ---- the book's calls

pub call-front : (known more : List Draw) (n : ℕ) → 0 < draws_of n known → call_at known n ≡ call_at (known ++ more) n
call-front [] more n h = absurd (omega (arith, h))
call-front (d ∷ known) more n h = dite (ℕ_discrete d.number n)
    (λ (is : d.number ≡ n).
    ap (λ b. cond b d.call (call_at known n)) (eq-eqb d.number n is) ∙ sym (ap (λ b. cond b d.call (call_at (known ++ more) n)) (eq-eqb d.number n is)))
    (λ (ne : d.number ≢ n).
    ap (λ b. cond b d.call (call_at known n)) (ne_eqb d.number n ne) ∙ call-front known more n (omega (arith, h, hit-else n d.number ne))
    ∙ sym (ap (λ b. cond b d.call (call_at (known ++ more) n)) (ne_eqb d.number n ne)))

pub known-more : (known more : List Draw) (n : ℕ) → 0 < draws_of n known → 0 < draws_of n (known ++ more)
known-more known more n h = omega (arith, h, total-append (λ (d : Draw). hit n d.number) known more)

pub shards_take_tickets : ShardsTakeTickets
shards_take_tickets shards first armed armed' p x t seen h more = record {
  kept = kept_calls (calls shards) (call_at p.known) (call_at (p.known ++ t.known)) p.shard (loaded first) x
      (λ q k. call-front p.known t.known q.number (each-has (λ (q : order.Place). 0 < draws_of q.number p.known) x.queue q h.waiting k))
      (λ e k. call-front p.known t.known e.number (each-has (λ (e : Entry). 0 < draws_of e.number p.known) p.log e h.known
      (has_only (λ (y : Entry). not (is_note y.act)) p.log e (subst (λ l. Has l e) h.log k)).0)) h.kept;
  log = h.log;
  waiting = Each-map (λ (q : order.Place). 0 < draws_of q.number p.known) (λ (q : order.Place). 0 < draws_of q.number (p.known ++ t.known))
      (λ q k. known-more p.known t.known q.number k) x.queue h.waiting;
  known = Each-map (λ (e : Entry). 0 < draws_of e.number p.known) (λ (e : Entry). 0 < draws_of e.number (p.known ++ t.known))
      (λ e k. known-more p.known t.known e.number k) p.log h.known;
  room = λ n. omega (arith, h.room n, more n, total-append (hit n) p.counted t.runs);
}

each-only : {X : Type 0} (P : X → Type 0) (q : X → Bool) (l : List X) → Each P l → Each P (only q l)
each-only P q [] e = tt
each-only {X} P q (x ∷ l) e = go (q x) (each-only P q l e.1)
  where
    go : (b : Bool) → Each P (only q l) → Each P (cons_if b x (only q l))
    go true f = (e.0, f)
    go false f = f

each-insert : (P : order.Place → Type 0) (q : order.Place) (l : List order.Place) → P q → Each P l → Each P (order.insert q l)
each-insert P q [] here e = (here, tt)
each-insert P q (r ∷ l) here e = go (ltb q.number r.number) (each-insert P q l here e.1)
  where
    go : (b : Bool) → Each P (order.insert q l) → Each P (if b then q ∷ r ∷ l else r ∷ order.insert q l)
    go true f = (here, e)
    go false f = (e.0, f)

pub shards_let_wait : ShardsLetWait
shards_let_wait shards first armed p x n keys some h drawn asks new above right = record {
  kept = kept_enqueue (calls shards) (calls_laws shards some) (call_at p.known) p.shard (loaded first) x n keys h.kept asks new above right;
  log = h.log;
  waiting = each-insert (λ (q : order.Place). 0 < draws_of q.number p.known)
      (record { number = n; granted = is_free (calls shards) keys x.holders }) x.queue drawn h.waiting;
  known = h.known;
  room = h.room;
}

pub shards_let_go : ShardsLetGo
shards_let_go shards first armed armed' p x n h less = record {
  kept = kept_leave (calls shards) (call_at p.known) p.shard (loaded first) x n h.kept;
  log = h.log;
  waiting = each-only (λ (q : order.Place). 0 < draws_of q.number p.known) (λ (q : order.Place). not (eqb q.number n)) x.queue h.waiting;
  known = h.known;
  room = λ m. omega (arith, h.room m, less m);
}

pub armed_has_room : ArmedHasRoom
armed_has_room shards first armed p x e h le = λ some. omega (arith, h.room e.number, le)

pub hops_are_fresh : HopsAreFresh
hops_are_fresh [] e act acts plain = tt
hops_are_fresh (x ∷ log) e act acts plain = (
  λ q kind same. here (is_note x.act) refl (kind ∙ act) same,
  hops_are_fresh log e act (λ f h i. acts f (behind (not (is_note x.act)) f h) i) plain,
)
  where
    behind : (b : Bool) (f : Entry) → Has (acts_of log) f → Has (cons_if b x (acts_of log)) f
    behind true f h = inr h
    behind false f h = h

    here : (b : Bool) → is_note x.act ≡ b → is_note x.act ≡ false → x.number ≡ e.number → x.hop ≢ e.hop
    here true i j k = absurd (false≢true (sym j ∙ i))
    here false i j k = λ same. absurd (omega (
      arith,
      acts x (subst (λ b. Has (cons_if (not b) x (acts_of log)) x) (sym i) (inl refl)) k,
      same,
    ))

pub grown-acts : (log : List Entry) (e : Entry) (b : Bool) → is_note e.act ≡ b → acts_of (log ++ e ∷ []) ≡ acts_of log ++ cons_if (not b) e []
grown-acts log e b i =
    only_append (λ (y : Entry). not (is_note y.act)) log (e ∷ []) ∙ ap (λ b. acts_of log ++ cons_if (not b) e []) i

grown-uses : (n : ℕ) (log : List Entry) (e : Entry) → uses_of n (log ++ e ∷ []) ≡ uses_of n log + use_of n e
grown-uses n log e = omega (arith, total-append (use_of n) log (e ∷ []))

-- an entry of which the order law keeps the shard
entered : (shards : ℕ) (first : Keyspace) (armed armed' : ℕ → ℕ) (p : Shard) (x : order.Shard (calls shards)) (e : Entry) →
    ShardHolds shards first armed p x → is_note e.act ≡ false → 0 < draws_of e.number p.known →
    Kept (calls shards) (call_at p.known) p.shard (loaded first) (enter (calls shards) e x) →
    ((n : ℕ) → armed' n + use_of n e ≤ armed n) → ShardHolds shards first armed' (after_entry p e) (enter (calls shards) e x)
entered shards first armed armed' p x e h act drawn kept less = record {
  kept = kept;
  log = ap (λ l. l ++ e ∷ []) h.log ∙ sym (grown-acts p.log e false act);
  waiting = h.waiting;
  known = Each-append (λ (e : Entry). 0 < draws_of e.number p.known) p.log (e ∷ []) h.known (drawn, tt);
  room = λ n. omega (arith, h.room n, less n, grown-uses n p.log e);
}

pub staged_stays_own : StagedStaysOwn
staged_stays_own shards first armed p x n some h =
    kept_good (calls shards) (calls_laws shards some) (call_at p.known) p.shard (loaded first) x h.kept (λ m key w. refl) n

pub shards_run_in_turn : ShardsRunInTurn
shards_run_in_turn shards first armed armed' p x e some h act turn told rises less =
    entered shards first armed armed' p x e h act
    (subst (λ n. 0 < draws_of n p.known) turn.2 (each-has (λ (q : order.Place). 0 < draws_of q.number p.known) x.queue turn.0 h.waiting turn.1))
    (kept_hop (calls shards) (calls_laws shards some) (call_at p.known) p.shard (loaded first) x e.number e h.kept turn refl
    (told, staged_stays_own shards first armed p x e.number some h) rises) less

pub shards_run_at_once : ShardsRunAtOnce
shards_run_at_once shards first armed armed' p x e keys some h act drawn asks free above told less =
    entered shards first armed armed' p x e h act drawn
    (kept_at_once (calls shards) (calls_laws shards some) (call_at p.known) p.shard (loaded first) x e.number keys e h.kept asks free above refl
    (told, staged_stays_own shards first armed p x e.number some h)) less

pub shards_note : ShardsNote
shards_note shards first armed armed' p x e h note drawn less = record {
  kept = h.kept;
  log = h.log ∙ sym (append-nil (acts_of p.log)) ∙ sym (grown-acts p.log e true note);
  waiting = h.waiting;
  known = Each-append (λ (e : Entry). 0 < draws_of e.number p.known) p.log (e ∷ []) h.known (drawn, tt);
  room = λ n. omega (arith, h.room n, less n, grown-uses n p.log e);
}

-- ---- the beginning

pub lobbies_begin : LobbiesBegin
lobbies_begin shards z draws = record { own = refl; made = refl; places = refl; seen = tt; left = tt }

pub sessions_begin : SessionsBegin
sessions_begin shards first gone draws l = (
  record { own = l.own; made = l.made; places = l.places; seen = l.seen; left = l.left },
  record { place = refl; own = refl; mine = tt; made = tt; left = tt; follow = tt },
)

pub shards_begin : ShardsBegin
shards_begin shards s K z = record {
  kept = kept_first (calls shards) (call_at []) s (loaded K);
  log = refl;
  waiting = tt;
  known = tt;
  room = λ n. omega arith;
}
