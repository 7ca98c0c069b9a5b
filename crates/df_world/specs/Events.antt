-- What may happen in a world, and what it changes.
use Rattle.std.specs.Prelude.{
  ◌≡◌,
  ◌≢◌,
  ℕ,
  zero,
  suc,
  ◌<◌,
  max,
  Bool,
  true,
  false,
  Option,
  Some,
  None,
  List,
  [],
  ◌∷◌,
  ◌⊎◌,
  ◌&&◌,
  ◌||◌,
  not,
  eqb,
  ltb,
  if◌then◌else◌,
}
use Rattle.df_order.specs.Puts.{put}
use Rattle.df_order.specs.Model.{Model}
use Rattle.df_order.specs.Histories.{entries}
use Rattle.df_order.specs.Shards.{Shard, tail, is_free, enqueue, leave, enter, MayRun}
use Rattle.df_world.specs.World.{Phase, Fresh, Taken, Out, Cancelled, Done, IsTaken, World, logs, Finished, moved}

-- One step of the world. A shard that finds no memory for a call refuses it.
pub data Event (M : Model) : Type 0 where
  -- a caller draws the next number for a call
  Draw : (caller : ℕ) (call : M.Call) → Event M
  -- a call comes to wait on a shard, or is refused
  Schedule : (shard number : ℕ) (memory : Bool) → Event M
  -- a call of one shard and one hop comes: it runs at once, or waits, or is refused
  Quick : (shard number : ℕ) (memory : Bool) (entry : M.Entry) → Event M
  -- a waiting call runs its next hop
  Hop : (shard number : ℕ) (entry : M.Entry) → Event M
  -- a waiting call leaves without a hop, since another shard refused it
  Cancel : (shard number : ℕ) → Event M
  -- a waiting call leaves after its last hop
  Conclude : (shard number : ℕ) → Event M
  -- a bucket is written to a file, which changes nothing here
  Bucket_write : (shard : ℕ) → Event M

-- ---- what an event changes

-- a call may wait if it is above all that ran, and free or above all that wait
abbrev pub takes : (M : Model) → ℕ → M.Keys → Shard M → Bool
takes M n k x = ltb x.ran n && (is_free M k x.holders || not (ltb n (tail x.queue)))

-- a call that asks for these keys comes: it waits, or is out
abbrev pub offered : (M : Model) → Bool → ℕ → ℕ → Bool → Option M.Keys → World M → World M
offered M quick s n memory None w = w
offered M quick s n memory (Some k) w =
    if memory && takes M n k (w.shard s) then moved M s n (Taken quick) (enqueue M n k (w.shard s)) w else
    moved M s n Out (w.shard s) w

-- a Quick runs at once if it is above all that ran, and free
abbrev pub runs_at_once : (M : Model) → ℕ → Bool → Option M.Keys → Shard M → Bool
runs_at_once M n memory None x = false
runs_at_once M n memory (Some k) x = memory && (ltb x.ran n && is_free M k x.holders)

-- a call that came by a Quick leaves with its hop
abbrev pub hopped : (M : Model) → ℕ → ℕ → M.Entry → Phase → World M → World M
hopped M s n e (Taken true) w = moved M s n Done (leave M n (enter M e (w.shard s))) w
hopped M s n e (Taken false) w = moved M s n (Taken false) (enter M e (w.shard s)) w
hopped M s n e Fresh w = w
hopped M s n e Out w = w
hopped M s n e Cancelled w = w
hopped M s n e Done w = w

-- an entry is of this caller
abbrev pub some_of : (M : Model) → (ℕ → ℕ) → ℕ → List M.Entry → Bool
some_of M caller k [] = false
some_of M caller k (e ∷ es) = eqb (caller (M.number e)) k || some_of M caller k es

-- the greatest number in the longest front of the log that ends with an entry of this caller, or 0
abbrev pub seen_top : (M : Model) → (ℕ → ℕ) → ℕ → List M.Entry → ℕ
seen_top M caller k [] = 0
seen_top M caller k (e ∷ es) =
    if some_of M caller k (e ∷ es) then max (M.number e) (seen_top M caller k es) else 0

-- the greatest number that this caller has seen on the first t shards
abbrev pub floor_of : (M : Model) → World M → ℕ → ℕ → ℕ
floor_of M w k zero = 0
floor_of M w k (suc t) = max (seen_top M w.caller k (logs M w t)) (floor_of M w k t)

abbrev pub after : (M : Model) → World M → Event M → World M
after M w (Draw k c) = record w {
  counter = suc w.counter;
  call = put w.counter c w.call;
  caller = put w.counter k w.caller;
  floor = put w.counter (floor_of M w k M.shards) w.floor;
}
after M w (Schedule s n memory) = offered M false s n memory (M.footprint (w.call n) s) w
after M w (Quick s n memory e) =
    if runs_at_once M n memory (M.footprint (w.call n) s) (w.shard s) then moved M s n Done (enter M e (w.shard s)) w
    else offered M true s n memory (M.footprint (w.call n) s) w
after M w (Hop s n e) = hopped M s n e (w.phase s n) w
after M w (Cancel s n) = moved M s n Cancelled (leave M n (w.shard s)) w
after M w (Conclude s n) = moved M s n Done (leave M n (w.shard s)) w
after M w (Bucket_write s) = w

-- ---- when it may happen

-- the call has its reply, or a shard is without it and no shard will run it any more
pub record Settled (M : Model) (w : World M) (n : ℕ) : Type 0 where
  pub by :
      (Finished M w n) ⊎
      (((s : ℕ) × (M.footprint (w.call n) s ≢ None) × (w.phase s n ≡ Out)) × ((s : ℕ) → IsTaken (w.phase s n) → ⊥))

-- a caller draws once the last number that it drew, if there is one, is settled
pub record CanDraw (M : Model) (w : World M) (k : ℕ) : Type 0 where
  pub settled :
      (n : ℕ) → 0 < n → n < w.counter → w.caller n ≡ k → ((m : ℕ) → n < m → m < w.counter → w.caller m ≢ k) →
      Settled M w n

-- a number comes once to each shard that its call names
pub record CanOffer (M : Model) (w : World M) (s n : ℕ) : Type 0 where
  pub drawn : (0 < n) × (n < w.counter)
  pub named : M.footprint (w.call n) s ≢ None
  pub fresh : w.phase s n ≡ Fresh

pub record CanQuick (M : Model) (w : World M) (s n : ℕ) (memory : Bool) (e : M.Entry) : Type 0 where
  pub offer : CanOffer M w s n
  pub quick : M.quick (w.call n) ≡ true
  pub number : M.number e ≡ n
  pub next : M.Next (w.call n) (λ t. []) s e
  pub told :
      runs_at_once M n memory (M.footprint (w.call n) s) (w.shard s) ≡ true → M.Tells s (w.call n) e (w.shard s).state

-- a call's hops begin once it waits on each shard that it names, and each has its turn
pub record CanHop (M : Model) (w : World M) (s n : ℕ) (e : M.Entry) : Type 0 where
  pub taken : (t : ℕ) → M.footprint (w.call n) t ≢ None → IsTaken (w.phase t n)
  pub number : M.number e ≡ n
  pub next : M.Next (w.call n) (entries M (logs M w) n) s e
  pub turn : MayRun (w.shard s).queue n
  pub told : M.Tells s (w.call n) e (w.shard s).state

pub record CanCancel (M : Model) (w : World M) (s n : ℕ) : Type 0 where
  pub taken : IsTaken (w.phase s n)
  pub other : (t : ℕ) × (M.footprint (w.call n) t ≢ None) × (w.phase t n ≡ Out)

pub record CanConclude (M : Model) (w : World M) (s n : ℕ) : Type 0 where
  pub taken : IsTaken (w.phase s n)
  pub ran : Finished M w n

abbrev pub Happens : (M : Model) → World M → Event M → Type 0
Happens M w (Draw k c) = CanDraw M w k
Happens M w (Schedule s n memory) = CanOffer M w s n
Happens M w (Quick s n memory e) = CanQuick M w s n memory e
Happens M w (Hop s n e) = CanHop M w s n e
Happens M w (Cancel s n) = CanCancel M w s n
Happens M w (Conclude s n) = CanConclude M w s n
Happens M w (Bucket_write s) = Unit {0}

-- the events may happen one after the other, and lead from the first world to the last
abbrev pub Runs : (M : Model) → World M → List (Event M) → World M → Type 0
Runs M w [] last = w ≡ last
Runs M w (e ∷ es) last = Happens M w e × Runs M (after M w e) es last
