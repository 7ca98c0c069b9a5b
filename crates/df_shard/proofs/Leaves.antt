-- A call that leaves, after its last hop or without any.
use Rattle.std.proofs.Common.{◌≡◌, ◌≢◌, ℕ, Bool, true, false, not, cond, List, [], ◌∷◌, refl, sym, ap, subst, arith}
use Rattle.std.specs.Prelude.{map, ◌==◌}
use Rattle.std.specs.List.{filter}
use Rattle.df_order.specs.Shards as order
use Rattle.df_log.specs.Entries.{acts_of}
use Rattle.df_core.specs.Calls.{calls}
use Rattle.df_txqueue.specs.Places as queue
use Rattle.df_txqueue.specs.Places.{is_queued}
use Rattle.df_end.specs.Shards.{ShardHolds}
use Rattle.df_end.proofs.ShardLaws.{shards_let_go}
use Rattle.df_shard.specs.Owns.{OwnPart}
use Rattle.df_shard.specs.Holds.{View, Holds, Wait, Waits, armed_in, part_in, staged_at, wait_of, world_of}
use Rattle.df_shard.specs.Changes.{left, waiting_without}
use Rattle.df_shard.specs.Leaving.{IsGone}
use Rattle.df_shard.specs.declared.waiting.Waiting.{Waiting}
use Rattle.df_shard.proofs.Queues.{holds-without, queued-none, queued-without, same-holders, same-leave}
use Rattle.df_shard.proofs.Waitings.{armed-without, at-without, each-without, once-without, puts-without, staged-without}

same-part : (x : View) (n : ℕ) → staged_at n x.waiting ≡ [] → part_in x ≡ part_in (left x n)
same-part x n bare = λ j. record { visible = x.keys; staged = λ m. sym (staged-without n x.waiting bare m) j }

world-left : (x : View) (n : ℕ) → staged_at n x.waiting ≡ [] → order.leave (calls x.shards) n (world_of x) ≡ world_of (left x n)
world-left x n bare = λ j. record {
  state = same-part x n bare j;
  holders = sym (same-holders x.shards n x.holders) j;
  queue = sym (same-leave n x.places) j;
  ran = x.ran;
  log = acts_of x.pass.log;
}

still-waits : (x : View) (n : ℕ) (v : Wait) → v.number ≢ n → Waits x.shards x.index x.places x.pass v →
    Waits x.shards x.index (queue.without n x.places) x.pass v
still-waits x n v other h =
    record { queued = queued-without n v.number x.places other h.queued; known = h.known; below = h.below; armed = h.armed; bare = h.bare }

-- where nothing is staged for it
pub leaves : (x : View) (n : ℕ) → Holds x → staged_at n x.waiting ≡ [] → Holds (left x n)
leaves x n h bare = record {
  some = h.some;
  index = h.index;
  book = h.book;
  own = h.own;
  holds = subst (ShardHolds x.shards x.first (armed_in (waiting_without n x.waiting)) x.pass) (world-left x n bare)
      (shards_let_go x.shards x.first (armed_in x.waiting) (armed_in (waiting_without n x.waiting)) x.pass (world_of x) n h.holds (armed-without n x.waiting));
  once = once-without n x.waiting h.once;
  waits = each-without (Waits x.shards x.index x.places x.pass) (Waits x.shards x.index (queue.without n x.places) x.pass) n x.waiting (λ v other w. still-waits x n v other w) h.waits;
  room = omega (arith, h.room, puts-without n x.waiting);
  mine = subst (OwnPart x.shards x.index) (same-part x n bare) h.mine;
}

pub gone-left : (x : View) (n : ℕ) → IsGone n (left x n)
gone-left x n = record { waits = at-without n x.waiting; place = queued-none n x.places; intents = holds-without n x.holders }

pub waiting-filtered : (n : ℕ) (ws : List Waiting) → map wait_of (filter (λ (w : Waiting). not (w.number == n)) ws) ≡ waiting_without n (map wait_of ws)
waiting-filtered n [] = refl
waiting-filtered n (w ∷ ws) = go (waiting-filtered n ws) (w.number == n)
  where
    go : map wait_of (filter (λ (w : Waiting). not (w.number == n)) ws) ≡ waiting_without n (map wait_of ws) → (b : Bool) →
        map wait_of (cond (not b) (w ∷ filter (λ (w : Waiting). not (w.number == n)) ws) (filter (λ (w : Waiting). not (w.number == n)) ws))
        ≡ cond b (waiting_without n (map wait_of ws)) (wait_of w ∷ waiting_without n (map wait_of ws))
    go more true = more
    go more false = ap (λ l. wait_of w ∷ l) more
