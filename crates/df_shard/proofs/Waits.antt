-- A call that comes to wait.
use Rattle.std.proofs.Common.{◌≡◌, ◌⊎◌, ℕ, ◌+◌, ◌<◌, ◌≤◌, Bool, true, false, cond, [], ◌∷◌, ◌++◌, inl, inr, refl, sym, ap, ◌∙◌, subst, arith}
use Rattle.std.specs.Prelude.{Option, Some, None, map, ◌==◌}
use Rattle.df_model.specs.declared.command.Call.{Call}
use Rattle.df_model.specs.declared.keys.Keys.{Keys}
use Rattle.df_footprints.specs.Footprints.{footprint_of}
use Rattle.df_order.specs.Lists.{Has}
use Rattle.df_order.specs.Shards as order
use Rattle.df_order.proofs.ShardKept.{ran_most}
use Rattle.df_log.specs.Entries.{acts_of}
use Rattle.df_log.specs.declared.entry.Entry.{Entry}
use Rattle.df_core.specs.Calls.{calls}
use Rattle.df_book.specs.Weights.{count}
use Rattle.df_book.specs.Logs.{uses_of}
use Rattle.df_book.specs.Draws.{draws_of, call_at}
use Rattle.df_book.proofs.Sums.{Each-map, Each-append}
use Rattle.df_txqueue.specs.Places as queue
use Rattle.df_txqueue.specs.Places.{is_queued}
use Rattle.df_txqueue.specs.declared.place.Place as at
use Rattle.df_intents.specs.Holders as intents
use Rattle.df_end.specs.Shards.{ShardHolds, loaded}
use Rattle.df_end.proofs.ShardLaws.{shards_let_wait}
use Rattle.df_shard.specs.Owns.{OwnPart}
use Rattle.df_shard.specs.Holds.{View, Holds, Wait, Waits, IsArmed, IsBare, armed_in, is_armed, part_in, place_for, place_of, holder_of, tail_of, wait_at, world_of}
use Rattle.df_shard.specs.Changes.{waited, plain_wait, quick_wait}
use Rattle.df_shard.specs.Came.{Brought}
use Rattle.df_shard.specs.Turns.{IsLast}
use Rattle.df_shard.proofs.Bare.{not-both}
use Rattle.df_shard.proofs.Queues.{same-free, same-insert, not-in, queued-with, queued-new}
use Rattle.df_shard.proofs.Waitings.{at-number, at-each, staged-append, armed-append, once-append, puts-append}

-- ---- who has no place doesn't wait

pub not-waiting : (x : View) (n : ℕ) → Holds x → is_queued n x.places ≡ false → wait_at n x.waiting ≡ None
not-waiting x n h new = go (wait_at n x.waiting) refl
  where
    go : (o : Option Wait) → wait_at n x.waiting ≡ o → wait_at n x.waiting ≡ None
    go None is = is
    go (Some w) is = absurd (not-both
        (subst (λ i. is_queued i x.places ≡ true) (at-number n x.waiting w is) (at-each (Waits x.shards x.index x.places x.pass) n x.waiting w is h.waits).queued) new)

-- above all that ran a number is new
pub none-above : (x : View) (n : ℕ) → Holds x → x.ran < n → (f : Entry) → Has (acts_of x.pass.log) f → f.number ≡ n → ⊥
none-above x n h above f m is =
    absurd (omega (arith, above, is, ran_most (calls x.shards) (call_at x.pass.known) x.pass.shard (loaded x.first) (world_of x) h.holds.kept f m))

-- ---- a call that may wait

pub record MayWait (x : View) (n : ℕ) (k : Keys) (w : Wait) : Type 0 where
  pub of : w.number ≡ n
  pub above : x.ran < n
  pub new : is_queued n x.places ≡ false
  pub drawn : 0 < draws_of n x.pass.known
  pub asks : footprint_of x.shards (call_at x.pass.known n) x.index ≡ Some k
  pub turn : (intents.is_free k x.holders ≡ true) ⊎ (tail_of x.places ≤ n)
  pub room : (m : ℕ) → uses_of m x.pass.log + (armed_in x.waiting m + cond (w.number == m) (is_armed w.armed) 0) ≤ count m x.pass.counted
  pub armed : IsArmed x.shards x.index x.pass n w.above w.armed
  pub bare : w.staged ≡ []
  pub bare-armed : IsBare w.armed w.staged

-- its place
abbrev pub place_in : View → ℕ → Keys → at.Place
place_in x n k = place_for n (intents.is_free k x.holders)

same-part : (x : View) (k : Keys) (p : at.Place) (w : Wait) → w.staged ≡ [] → part_in x ≡ part_in (waited x k p w)
same-part x k p w bare = λ j. record { visible = x.keys; staged = λ m. sym (staged-append x.waiting w bare m) j }

world-waited : (x : View) (n : ℕ) (k : Keys) (w : Wait) → w.staged ≡ [] →
    order.enqueue (calls x.shards) n k (world_of x) ≡ world_of (waited x k (place_in x n k) w)
world-waited x n k w bare = λ j. record {
  state = same-part x k (place_in x n k) w bare j;
  holders = record { number = n; keys = k } ∷ map (holder_of x.shards) x.holders;
  queue = ((λ i. order.insert record { number = n; granted = same-free x.shards k x.holders i } (map place_of x.places)) ∙ sym (same-insert (place_in x n k) x.places)) j;
  ran = x.ran;
  log = acts_of x.pass.log;
}

still-waits : (x : View) (p : at.Place) (v : Wait) → Waits x.shards x.index x.places x.pass v →
    Waits x.shards x.index (queue.with_place p x.places) x.pass v
still-waits x p v h =
    record { queued = queued-with p x.places v.number h.queued; known = h.known; below = h.below; armed = h.armed; bare = h.bare }

now-waits : (x : View) (n : ℕ) (k : Keys) (w : Wait) → Holds x → MayWait x n k w →
    Waits x.shards x.index (queue.with_place (place_in x n k) x.places) x.pass w
now-waits x n k w h m = record {
  queued = subst (λ i. is_queued i (queue.with_place (place_in x n k) x.places) ≡ true) (sym m.of) (queued-new (place_in x n k) x.places);
  known = subst (λ i. 0 < draws_of i x.pass.known) (sym m.of) m.drawn;
  below = λ e k is. absurd (none-above x n h m.above e k (is ∙ m.of));
  armed = subst (λ i. IsArmed x.shards x.index x.pass i w.above w.armed) (sym m.of) m.armed;
  bare = m.bare-armed;
}

pub waits : (x : View) (n : ℕ) (k : Keys) (w : Wait) → Holds x → MayWait x n k w → Holds (waited x k (place_in x n k) w)
waits x n k w h m = record {
  some = h.some;
  index = h.index;
  book = h.book;
  own = h.own;
  holds = subst (ShardHolds x.shards x.first (armed_in (x.waiting ++ w ∷ [])) x.pass) (world-waited x n k w m.bare)
      record { kept = s.kept; log = s.log; waiting = s.waiting; known = s.known; room = λ i. omega (arith, m.room i, armed-append x.waiting w i) };
  once = once-append x.waiting w h.once (subst (λ i. wait_at i x.waiting ≡ None) (sym m.of) (not-waiting x n h m.new));
  waits = Each-append (Waits x.shards x.index (queue.with_place (place_in x n k) x.places) x.pass) x.waiting (w ∷ [])
      (Each-map (Waits x.shards x.index x.places x.pass) (Waits x.shards x.index (queue.with_place (place_in x n k) x.places) x.pass)
      (λ v a. still-waits x (place_in x n k) v a) x.waiting h.waits)
      (now-waits x n k w h m, tt);
  room = omega (arith, h.room, puts-append x.waiting w m.bare);
  mine = subst (OwnPart x.shards x.index) (same-part x k (place_in x n k) w m.bare) h.mine;
}
  where
    right : (order.is_free (calls x.shards) k (map (holder_of x.shards) x.holders) ≡ true) ⊎ (order.tail (map place_of x.places) ≤ n)
    right = elim m.turn [
      | inl g ↦ inl (same-free x.shards k x.holders ∙ g)
      | inr t ↦ inr t
    ]

    s : ShardHolds x.shards x.first (armed_in x.waiting) x.pass (order.enqueue (calls x.shards) n k (world_of x))
    s = shards_let_wait x.shards x.first (armed_in x.waiting) x.pass (world_of x) n k (omega (arith, h.some)) h.holds m.drawn
        (subst (λ i. footprint_of x.shards (call_at x.pass.known n) i ≡ Some k) (sym h.index) m.asks) (not-in n x.places m.new) m.above right

cond-zero : (b : Bool) → ◌≡◌ {A = ℕ} (cond b 0 0) 0
cond-zero true = refl
cond-zero false = refl

-- a Quick comes to wait
pub quick-waits : (x : View) (n conn hop : ℕ) (call : Call) (k : Keys) → Holds x → Brought x n hop call → IsLast x n call k →
    Holds (waited x k (place_in x n k) (quick_wait n conn hop call))
quick-waits x n conn hop call k h b l = waits x n k (quick_wait n conn hop call) h record {
  of = refl;
  above = l.start.0;
  new = l.start.1;
  drawn = b.drawn;
  asks = ap (λ c. footprint_of x.shards c x.index) b.is_call ∙ l.asks;
  turn = inr l.last;
  room = λ m. omega (arith, b.room m);
  armed = (omega arith, (sym b.is_call, b.is_due));
  bare = refl;
  bare-armed = refl;
}

-- a call comes to wait with nothing armed
pub call-waits : (x : View) (n conn : ℕ) (k : Keys) → Holds x → 0 < draws_of n x.pass.known →
    footprint_of x.shards (call_at x.pass.known n) x.index ≡ Some k → x.ran < n → is_queued n x.places ≡ false →
    (intents.is_free k x.holders ≡ true) ⊎ (tail_of x.places ≤ n) → Holds (waited x k (place_in x n k) (plain_wait n conn))
call-waits x n conn k h drawn asks above new turn = waits x n k (plain_wait n conn) h record {
  of = refl;
  above = above;
  new = new;
  drawn = drawn;
  asks = asks;
  turn = turn;
  room = λ m. omega (arith, h.holds.room m, cond-zero (n == m));
  armed = tt;
  bare = refl;
  bare-armed = tt;
}
