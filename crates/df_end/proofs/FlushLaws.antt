-- One FLUSHALL on one shard: what the book's calls tell makes the records.
use Rattle.std.proofs.Common.{nat_cmp, ◌≡◌, ◌≢◌, ℕ, zero, suc, ◌<◌, ◌≤◌, Bool, true, false, not, cond, List, [], ◌∷◌, ◌++◌, inl, inr, refl, sym, ap, ◌∙◌, subst, arith, append-nil}
use Rattle.std.specs.Prelude.{◌==◌, Option, Some, None}
use Rattle.df_model.specs.Keyspace.{no_keys, held}
use Rattle.std.specs.FinMap.{get-empty}
use Rattle.std.specs.Cmp.Lexicographic.{slice_cmp}
use Rattle.df_model.specs.Values.{Bytes}
use Rattle.df_model.specs.Hash.{shard_of}
use Rattle.df_model.proofs.WholeLaws.{same_map_by}
use Rattle.df_core.proofs.JoinedLaws.{held_own}
use Rattle.df_log.specs.Parts.{own_keys}
use Rattle.df_model.specs.Outcomes.{ok}
use Rattle.df_model.specs.declared.command.WholeOp.TheVariants as wholes
use Rattle.df_model.specs.declared.command.Command.TheVariants.{Whole}
use Rattle.df_model.specs.declared.keys.Mode.TheVariants.{Exclusive}
use Rattle.df_model.specs.declared.keys.Keys.TheVariants as kinds
use Rattle.df_footprints.specs.Footprints.{footprint_of}
use Rattle.df_order.specs.Lists.{Has, cons_if}
use Rattle.df_order.specs.Shards as order
use Rattle.df_order.specs.Shards.{enter, is_free}
use Rattle.df_order.proofs.Lists.{nil_none}
use Rattle.df_log.specs.Acts.{Run}
use Rattle.df_log.specs.Parts.{ran as told_ran}
use Rattle.df_log.specs.Entries.{is_note, acts_of}
use Rattle.df_log.specs.declared.entry.Entry.{Entry}
use Rattle.df_core.specs.Calls.{calls}
use Rattle.df_core.specs.Belongs.{Belongs, runs}
use Rattle.df_core.specs.Done.{ran}
use Rattle.df_core.specs.Steps.{Step, steps_of}
use Rattle.df_book.specs.Weights.{Each, count, hit}
use Rattle.df_book.specs.Logs.{at_log, AllBelow, IsPrefix, BothSeen, HasRoom, IsFresh}
use Rattle.df_book.specs.Draws.{draws_of, call_at, last_number, Agreed, Bounded}
use Rattle.df_book.specs.Passes.{BookName, Caller, Ticket, Shard, Receipt, first_pass, new_shard, split_off, after_split, joined, draw_by, after_draw, after_running, running_of, after_ticket, after_entry, after_receipt}
use Rattle.df_book.specs.declared.draw.Draw.{Draw}
use Rattle.df_book.proofs.Sums.{hit-same, total-append}
use Rattle.df_book.proofs.Running.{last-snoc, drawn-last, below-fresh, below-room}
use Rattle.df_end.specs.Calls.{Row, item_of}
use Rattle.df_end.specs.Shards.{ShardHolds, loaded}
use Rattle.df_end.specs.Rounds.{Hopped, RoundOf, acts_in, CallWent}
use Rattle.df_model.specs.Spoken.{Session}
use Rattle.df_end.specs.Sessions.{SessionHolds, SessionLeft, Gone}
use Rattle.df_end.specs.Ended.{PartsLeft}
use Rattle.df_end.specs.OneCall.{Idle, SpeaksOfOne, Visited, flushall, flushed, flush_row}
use Rattle.df_end.proofs.EntryLaws.{each-has}
use Rattle.df_end.proofs.ShardLaws.{shards_take_tickets, shards_run_at_once, shards_end, lobbies_begin, sessions_begin, shards_begin}
use Rattle.df_end.proofs.RowLaws.{lobby_takes_in}
use Rattle.df_end.proofs.RoundLaws.{calls_begin, calls_end, rounds_are_seen, sessions_go_on}

pub has-prefix : (a b : List Entry) (e : Entry) → IsPrefix a b → Has a e → Has b e
has-prefix [] b e p h = absurd h
has-prefix (x ∷ a) [] e p h = absurd p
has-prefix (x ∷ a) (y ∷ b) e p (inl i) = inl (sym p.0 ∙ i)
has-prefix (x ∷ a) (y ∷ b) e p (inr h) = inr (has-prefix a b e p.1 h)

has-end : (a : List Entry) (e : Entry) → Has (a ++ e ∷ []) e
has-end [] e = inl refl
has-end (x ∷ a) e = inr (has-end a e)

last-draw : (ds es : List Draw) (d : Draw) → Has (ds ++ (es ++ d ∷ [])) d
last-draw [] [] d = inl refl
last-draw [] (x ∷ es) d = inr (last-draw [] es d)
last-draw (x ∷ ds) es d = inr (last-draw ds es d)

greatest-low : (n : ℕ) (log : List Entry) → 0 < n → Each (λ (e : Entry). e.number < n) log → order.greatest (calls 1) (acts_of log) < n
greatest-low n [] pos e = pos
greatest-low n (x ∷ log) pos e = go (not (is_note x.act)) (greatest-low n log pos e.1)
  where
    go : (b : Bool) → order.greatest (calls 1) (acts_of log) < n → order.greatest (calls 1) (cons_if b x (acts_of log)) < n
    go true lt = omega (arith, lt, e.0)
    go false lt = lt

module _ (p : Shard) (v : Caller) (n : ℕ) (seen : List (List Entry)) (idle : Idle p) (first : p.shard ≡ 0) (pos : 0 < n)
    (low : Each (λ (e : Entry). e.number < n) p.log) where
  abbrev d : Draw
  d = draw_by v flushall n

  abbrev t : Ticket
  t = running_of (after_draw v flushall n)

  abbrev p1 : Shard
  p1 = after_ticket p t seen

  number-is : last_number (v.own ++ d ∷ []) ≡ n
  number-is = last-snoc v.own d

  pub is-drawn : 0 < draws_of n p1.known
  is-drawn = drawn-last p.known v.own d

  pub has-room : HasRoom p1.log p1.counted (flushed n)
  has-room = subst (λ k. HasRoom p.log (p.counted ++ k ∷ []) (flushed n)) (sym number-is) (below-room p.log p.counted (flushed n) (omega arith) low)

  pub is-fresh : IsFresh p1.log (flushed n)
  is-fresh = below-fresh p.log (flushed n) low

  armed : ℕ → ℕ
  armed m = count m t.runs

  ticketed : ShardHolds 1 no_keys (λ m. count m t.runs) p1 idle.x
  ticketed = shards_take_tickets 1 no_keys (λ m. 0) (λ m. count m t.runs) p idle.x t seen idle.holds (λ m. omega arith)

  no-holders : idle.x.holders ≡ []
  no-holders = nil_none idle.x.holders (λ k m. let w = (idle.holds.kept.holding k m).0 in subst (λ l. Has l w.0) idle.none w.1)

  ran-low : idle.x.ran < n
  ran-low = omega (arith, idle.holds.kept.ran_is, ap (order.greatest (calls 1)) idle.holds.log, greatest-low n p.log pos low)

  pub entered : Agreed p1.known → Idle (after_entry p1 (flushed n))
  entered agreed = record {
    x = enter (calls 1) (flushed n) idle.x;
    holds = shards_run_at_once 1 no_keys (λ m. count m t.runs) (λ m. 0) p1 idle.x (flushed n) (kinds.All Exclusive) (omega arith)
        ticketed refl is-drawn (ap (λ c. footprint_of 1 c p.shard) call-is ∙ asks)
        (ap (is_free (calls 1) (kinds.All Exclusive)) no-holders) ran-low
        (subst (λ c. Belongs 1 p.shard c (Run (Whole wholes.Flushall))) (sym call-is) belongs, told_ran (Whole wholes.Flushall))
        (λ m. omega (arith, ap (λ k. hit m k) number-is));
    none = idle.none;
  }
    where
      call-is : call_at p1.known n ≡ flushall
      call-is = each-has (λ (x : Draw). call_at p1.known x.number ≡ x.call) p1.known d agreed (last-draw p.known v.own d)

      asks : footprint_of 1 flushall p.shard ≡ Some (kinds.All Exclusive)
      asks = ap (footprint_of 1 flushall) first

      belongs : Belongs 1 p.shard flushall (Run (Whole wholes.Flushall))
      belongs = subst (λ s. Belongs 1 s flushall (Run (Whole wholes.Flushall))) (sym first)
          record { within = omega arith; command = Whole wholes.Flushall; among = inl refl; may = runs refl }

abbrev one-round : ℕ → ℕ → Option Entry
one-round n zero = Some (flushed n)
one-round n (suc s) = None

module _ (v u : Caller) (n : ℕ) (r : Receipt) (log : List Entry) (below_n : AllBelow n v.seen) (own_below : Each (λ (x : Draw). x.number < n) v.own) (pos : 0 < n)
    (fresh : count n v.made ≡ 0) (is-shard : r.shard ≡ 0) (is-log : r.log ≡ log ++ flushed n ∷ [])
    (now : u ≡ after_receipt (after_running (after_draw v flushall n)) r u.seen) (both : BothSeen v.seen r.seen u.seen) (shown : at_log r.seen r.shard ≡ r.log)
    (bounded : Bounded u.own u.made u.seen) where
  number-last : last_number (v.own ++ draw_by v flushall n ∷ []) ≡ n
  number-last = last-snoc v.own (draw_by v flushall n)

  abbrev v1 : Caller
  v1 = after_draw v flushall n

  made-now : u.made ≡ v.made ++ last_number (v.own ++ draw_by v flushall n ∷ []) ∷ []
  made-now = ap (λ (x : Caller). x.made) now

  own-now : u.own ≡ v.own ++ draw_by v flushall n ∷ []
  own-now = ap (λ (x : Caller). x.own) now

  in-log : Has (at_log u.seen 0) (flushed n)
  in-log = has-prefix r.log (at_log u.seen 0) (flushed n)
      (subst (λ s. IsPrefix r.log (at_log u.seen s)) is-shard (subst (λ l. IsPrefix l (at_log u.seen r.shard)) shown (both.second r.shard)))
      (subst (λ l. Has l (flushed n)) (sym is-log) (has-end log (flushed n)))

  answer : (s : ℕ) → RoundOf n s v.seen u.seen (one-round n s)
  answer zero = record {
    number = refl;
    uses_one = refl;
    seen = in-log;
    is_new = λ h. let lt = each-has (λ (e : Entry). e.number < n) (at_log v.seen 0) (flushed n) (below_n 0) h in absurd (omega (arith, lt));
  }
  answer (suc s) = tt

  none-after : (s : ℕ) → 1 ≤ s → one-round n s ≡ None
  none-after zero le = absurd (omega (arith, le))
  none-after (suc s) le = refl

  hopped : Hopped 1 u n (λ s. acts_in (one-round n s))
  hopped = rounds_are_seen 1 n v1 u (λ s. []) (one-round n) (calls_begin 1 v flushall n below_n fresh pos).0 record {
    within = both.first;
    bounded = bounded;
    drawn = omega (
      arith,
      ap (draws_of n) own-now,
      total-append (λ (x : Draw). hit n x.number) v.own (draw_by v flushall n ∷ []),
      hit-same n,
    );
    made = omega (
      arith,
      ap (count n) made-now,
      total-append (hit n) v.made (last_number (v.own ++ draw_by v flushall n ∷ []) ∷ []),
      ap (hit n) number-last,
      hit-same n,
    );
    beyond = none-after;
    answers = answer;
  }

  abbrev steps : ℕ → List Step
  steps s = steps_of (acts_in (one-round n s))

  others : (s : ℕ) → s ≢ 0 → steps s ≡ []
  others zero ne = absurd (ne refl)
  others (suc s) ne = refl

  gives : (calls 1).Gives flushall (λ s. acts_in (one-round n s)) ok
  gives = (true, (steps, (λ s. []), (λ s. sym (append-nil (steps s))), ran 0 ok refl refl others, (λ s. refl)))

  pub went : CallWent 1 v u flushall (flush_row v n ∷ [])
  went = record {
    place = ap (λ (x : Caller). x.sessions) now;
    own = own-now;
    made = last_number (v.own ++ draw_by v flushall n ∷ []) ∷ [];
    made_is = made-now;
    made_own = (omega (arith, hit-same n, ap (λ k. hit k n) number-last), tt);
    within = both.first;
    bounded = bounded;
    calls = (refl, tt);
    session = (refl, tt);
    floor = ((omega arith, (calls_begin 1 v flushall n below_n fresh pos).1), tt);
    above = (own_below, tt);
    follow = ((λ q h. absurd h), tt);
    left = ((calls_end 1 u (draw_by v flushall n) (λ s. acts_in (one-round n s)) hopped).0 ok gives, tt);
  }

-- ---- the session

module _ (z : BookName) (u : Caller) (n : ℕ) (seen : List (List Entry)) (w : Session)
    (gone-by : CallWent 1 (split_off (first_pass z 1) 1) u flushall (flush_row (split_off (first_pass z 1) 1) n ∷ []))
    (both : BothSeen [] u.seen seen) (one : SpeaksOfOne w) where
  abbrev row : Row
  row = flush_row (split_off (first_pass z 1) 1) n

  abbrev the_gone : Gone
  the_gone = record { session = w; pass = u; rows = row ∷ [] }

  holds : SessionHolds 1 0 u (row ∷ [])
  holds = sessions_go_on 1 0 (split_off (first_pass z 1) 1) u [] (row ∷ []) flushall (omega arith)
      ((sessions_begin 1 (first_pass z 1) [] 1 (lobbies_begin 1 z 1)).1) gone-by

  session-left : SessionLeft 1 the_gone
  session-left = record {
    holds = subst (λ i. SessionHolds 1 i u (row ∷ [])) (sym one.id) holds;
    spoke = one.spoke (item_of 1 u.seen row.draw ok) refl refl;
  }

  pub visited : Visited w (joined (after_split (first_pass z 1) 1) u seen)
  visited = record {
    pass = u;
    rows = row ∷ [];
    lobby = lobby_takes_in 1 (after_split (first_pass z 1) 1) [] the_gone seen
        ((sessions_begin 1 (first_pass z 1) [] 1 (lobbies_begin 1 z 1)).0) session-left both;
  }

no-own : (s : ℕ) → no_keys ≡ own_keys 1 s no_keys
no-own s = same_map_by _ _ (λ key. go key (shard_of key 1 == s) ∙ sym (held_own 1 s no_keys key))
  where
    go : (key : Bytes) (b : Bool) → held no_keys key ≡ cond b (held no_keys key) None
    go key true = refl
    go key false = get-empty (slice_cmp nat_cmp) key

-- what the shard hands out
pub parts-left : (p q : Shard) → p.shard ≡ 0 → Idle p → PartsLeft 1 no_keys (p ∷ q ∷ [])
parts-left p q first idle s lt = (p, inl refl, omega (arith, first, lt), shards_end 1 no_keys no_keys (λ n. 0) p idle.x idle.holds idle.none (no-own p.shard))

pub idle-first : (z : BookName) → Idle (new_shard z 0)
idle-first z = record { x = order.empty (calls 1) (loaded no_keys); holds = shards_begin 1 0 no_keys z; none = refl }
