-- What a shard keeps over a ticket, and what it knows then.
use Rattle.std.proofs.Common.{◌≡◌, ℕ, ◌+◌, ◌<◌, ◌≤◌, List, [], ◌∷◌, ◌++◌, sym, ap, ◌∙◌, subst, arith}
use Rattle.std.specs.Prelude.{Option, Some, None}
use Rattle.df_model.specs.declared.command.Call.{Call}
use Rattle.df_model.specs.declared.keys.Keys.{Keys}
use Rattle.df_footprints.specs.Footprints.{footprint_of}
use Rattle.df_log.specs.Acts.{Act}
use Rattle.df_log.specs.declared.entry.Entry.{Entry}
use Rattle.df_core.specs.Due.{due}
use Rattle.df_core.specs.Steps.{steps_of}
use Rattle.df_book.specs.Weights.{Each, count, hit}
use Rattle.df_book.specs.Logs.{at_log, uses_of, BothSeen, Within}
use Rattle.df_book.specs.Draws.{draws_of, call_at, Agreed}
use Rattle.df_book.specs.Passes.{BookName, Shard, Ticket, after_ticket}
use Rattle.df_book.specs.declared.draw.Draw.{Draw}
use Rattle.df_book.proofs.Sums.{Each-map, total-append}
use Rattle.df_book.proofs.Logs.{prefix-trans}
use Rattle.df_book.proofs.Taking.{each-split}
use Rattle.df_end.specs.Logs.{entries_in}
use Rattle.df_end.proofs.RowLaws.{at-agreed}
use Rattle.df_end.proofs.ShardLaws.{call-front, known-more, shards_take_tickets}
use Rattle.df_hops.specs.Parts.{shards_in}
use Rattle.df_shard.specs.Holds.{View, Holds, Hopping, Wait, Waits, IsArmed, WasDue, armed_in, call_act, world_of}
use Rattle.df_shard.specs.Came.{Took, Brought, Comes, with_pass}
use Rattle.df_shard.proofs.Bare.{known-right, some-same}

-- the view after a ticket was taken
abbrev pub ticketed : View → Ticket → List (List Entry) → View
ticketed x t seen = with_pass x (after_ticket x.pass t seen)

-- ---- what is armed stays due

within-trans : (xs ys zs : List (List Entry)) → Within xs ys → Within ys zs → Within xs zs
within-trans xs ys zs p q s = prefix-trans (at_log xs s) (at_log ys s) (at_log zs s) (p s) (q s)

due-knows : (x : View) (t : Ticket) (seen : List (List Entry)) (n hop : ℕ) (act : Act) (o : Option Call) → Within x.pass.seen seen →
    0 < draws_of n x.pass.known → WasDue x.shards x.index x.pass n hop act o → WasDue x.shards x.index (after_ticket x.pass t seen) n hop act o
due-knows x t seen n hop act None more d w = (
  w.0,
  within-trans w.0 x.pass.seen seen w.1 more,
  subst (λ c. due x.shards c (λ i. steps_of (entries_in x.shards w.0 n i)) x.index hop ≡ Some act) (call-front x.pass.known t.known n d) w.2,
)
due-knows x t seen n hop act (Some c) more d w = (w.0 ∙ call-front x.pass.known t.known n d, w.1)

armed-knows : (x : View) (t : Ticket) (seen : List (List Entry)) (n above : ℕ) (a : Option Hopping) → Within x.pass.seen seen →
    0 < draws_of n x.pass.known → IsArmed x.shards x.index x.pass n above a → IsArmed x.shards x.index (after_ticket x.pass t seen) n above a
armed-knows x t seen n above None more d i = tt
armed-knows x t seen n above (Some a) more d i = (i.0, due-knows x t seen n a.hop a.act a.call more d i.1)

waits-knows : (x : View) (t : Ticket) (seen : List (List Entry)) (w : Wait) → Within x.pass.seen seen →
    Waits x.shards x.index x.places x.pass w → Waits x.shards x.index x.places (after_ticket x.pass t seen) w
waits-knows x t seen w more h = record {
  queued = h.queued;
  known = known-more x.pass.known t.known w.number h.known;
  below = h.below;
  armed = armed-knows x t seen w.number w.above w.armed more h.known h.armed;
  bare = h.bare;
}

-- ---- the ticket

takes-at : (x : View) (t : Ticket) (seen : List (List Entry)) → Within x.pass.seen seen → at_log seen x.pass.shard ≡ x.pass.log → Holds x →
    Holds (ticketed x t seen)
takes-at x t seen more own h = record {
  some = h.some;
  index = h.index;
  book = h.book;
  own = own;
  holds = shards_take_tickets x.shards x.first (armed_in x.waiting) (armed_in x.waiting) x.pass (world_of x) t seen h.holds (λ n. omega arith);
  once = h.once;
  waits = Each-map (Waits x.shards x.index x.places x.pass) (Waits x.shards x.index x.places (after_ticket x.pass t seen)) (λ w k. waits-knows x t seen w more k) x.waiting h.waits;
  room = h.room;
  mine = h.mine;
}

own-log : (x : View) (t : Ticket) (p : Shard) → p ≡ after_ticket x.pass t p.seen → at_log p.seen p.shard ≡ p.log →
    at_log p.seen x.pass.shard ≡ x.pass.log
own-log x t p taken own = sym (ap (λ (q : Shard). at_log p.seen q.shard) taken) ∙ own ∙ ap (λ (q : Shard). q.log) taken

-- it leaves the shard as it is
pub takes : (x : View) (t : Ticket) (p : Shard) → p ≡ after_ticket x.pass t p.seen → BothSeen x.pass.seen t.seen p.seen →
    at_log p.seen p.shard ≡ p.log → Holds x → Holds (with_pass x p)
takes x t p taken both own h =
    subst (λ (q : Shard). Holds (with_pass x q)) (sym taken) (takes-at x t p.seen both.first (own-log x t p taken own) h)

pub took : (x : View) (t : Ticket) (p : Shard) → p ≡ after_ticket x.pass t p.seen → BothSeen x.pass.seen t.seen p.seen →
    at_log p.seen p.shard ≡ p.log → Agreed p.known → Holds x → Took x (with_pass x p) t
took x t p taken both own agreed h = record {
  pass = ap (with_pass x) taken;
  agreed = agreed;
  book = ap (λ (q : Shard). q.book.words) taken ∙ h.book;
  own = own;
  seen = both.second;
  room = subst (λ (q : Shard). (n : ℕ) → uses_of n q.log + (armed_in x.waiting n + count n t.runs) ≤ count n q.counted) (sym taken)
      (λ n. omega (arith, h.holds.room n, total-append (hit n) x.pass.counted t.runs));
}

-- ---- what its message tells

-- the call of a number that the ticket drew
pub call-came : (x y : View) (t : Ticket) (n : ℕ) → Took x y t → 0 < draws_of n t.known → call_at y.pass.known n ≡ call_at t.known n
call-came x y t n k d =
    ap (λ (v : View). call_at v.pass.known n) k.pass ∙ sym (at-agreed (x.pass.known ++ t.known) t.known n told d)
  where
    told : Each (λ (e : Draw). call_at (x.pass.known ++ t.known) e.number ≡ e.call) t.known
    told = (each-split (λ (e : Draw). call_at (x.pass.known ++ t.known) e.number ≡ e.call) x.pass.known t.known (subst (λ (v : View). Agreed v.pass.known) k.pass k.agreed)).1

pub drawn-came : (x y : View) (t : Ticket) (n : ℕ) → Took x y t → 0 < draws_of n t.known → 0 < draws_of n y.pass.known
drawn-came x y t n k d = subst (λ (v : View). 0 < draws_of n v.pass.known) (sym k.pass) (known-right x.pass.known t.known n d)

pub took-book : (x y : View) (t : Ticket) → Took x y t → y.pass.book ≡ x.pass.book
took-book x y t k = ap (λ (v : View). v.pass.book) k.pass

-- nothing but the pass changed
pub took-rest : (x y : View) (t : Ticket) → Took x y t → y ≡ with_pass x y.pass
took-rest x y t k = k.pass ∙ ap (with_pass x) (sym (ap (λ (v : View). v.pass) k.pass))

shards-are : (x y : View) (t : Ticket) → Took x y t → t.book ≡ x.pass.book → y.shards ≡ shards_in t.book
shards-are x y t k book = omega (arith, ap (λ (z : BookName). z.words) (book ∙ sym (took-book x y t k)), k.book)

-- a Quick
pub brings : (x y : View) (t : Ticket) (n s hop : ℕ) (call : Call) → Took x y t → t.book ≡ x.pass.book → s ≡ x.index →
    t.runs ≡ n ∷ [] → 0 < draws_of n t.known → Some call ≡ Some (call_at t.known n) →
    Some (call_act call hop) ≡ due (shards_in t.book) (call_at t.known n) (λ i. []) s hop → Brought y n hop call
brings x y t n s hop call k book here runs drawn of_call of_act = record {
  drawn = drawn-came x y t n k drawn;
  is_call = call-came x y t n k drawn ∙ sym same;
  is_due = (λ j. due (shards j) (same j) (λ i. []) (place j) hop) ∙ sym of_act;
  room = subst (λ ns. (m : ℕ) → uses_of m y.pass.log + (armed_in y.waiting m + count m ns) ≤ count m y.pass.counted) runs k.room;
}
  where
    same : call ≡ call_at t.known n
    same = some-same call (call_at t.known n) of_call

    shards : y.shards ≡ shards_in t.book
    shards = shards-are x y t k book

    place : y.index ≡ s
    place = ap (λ (v : View). v.index) k.pass ∙ sym here

-- a Hop
pub comes : (x y : View) (t : Ticket) (n s hop : ℕ) (act : Act) → Took x y t → t.book ≡ x.pass.book → s ≡ x.index →
    t.runs ≡ n ∷ [] → 0 < draws_of n t.known →
    Some act ≡ due (shards_in t.book) (call_at t.known n) (λ i. steps_of (entries_in (shards_in t.book) t.seen n i)) s hop → Comes y n hop act
comes x y t n s hop act k book here runs drawn of_act = record {
  drawn = drawn-came x y t n k drawn;
  is_due = (
    t.seen,
    k.seen,
    (λ j. due (shards j) (call-came x y t n k drawn j) (λ i. steps_of (entries_in (shards j) t.seen n i)) (place j) hop) ∙ sym of_act,
  );
  room = subst (λ ns. (m : ℕ) → uses_of m y.pass.log + (armed_in y.waiting m + count m ns) ≤ count m y.pass.counted) runs k.room;
}
  where
    shards : y.shards ≡ shards_in t.book
    shards = shards-are x y t k book

    place : y.index ≡ s
    place = ap (λ (v : View). v.index) k.pass ∙ sym here

-- a Schedule
pub asks-came : (x y : View) (t : Ticket) (n s : ℕ) (keys : Keys) → Took x y t → t.book ≡ x.pass.book → s ≡ x.index →
    0 < draws_of n t.known → Some keys ≡ footprint_of (shards_in t.book) (call_at t.known n) s →
    footprint_of y.shards (call_at y.pass.known n) y.index ≡ Some keys
asks-came x y t n s keys k book here drawn asks =
    (λ j. footprint_of (shards j) (call-came x y t n k drawn j) (place j)) ∙ sym asks
  where
    shards : y.shards ≡ shards_in t.book
    shards = shards-are x y t k book

    place : y.index ≡ s
    place = ap (λ (v : View). v.index) k.pass ∙ sym here
