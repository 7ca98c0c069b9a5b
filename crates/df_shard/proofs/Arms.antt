-- A hop is armed.
use Rattle.std.proofs.Common.{◌≡◌, ◌≢◌, ℕ, ◌+◌, ◌≤◌, Bool, true, false, not, cond, List, [], ◌∷◌, refl, sym, ap, ◌∙◌, subst, arith, ltb-false}
use Rattle.std.specs.Prelude.{Option, Some, None, ◌&&◌, nat_lt, map}
use mathlib.Core.Logic.{dite}
use native.Mathlib.Decide.{ℕ_discrete}
use Rattle.std.proofs.lemmas.Bool.{false≢true}
use Rattle.df_log.specs.Acts.{Act}
use Rattle.df_log.specs.Entries.{acts_of}
use Rattle.df_book.specs.Weights.{count}
use Rattle.df_book.proofs.Sums.{hit-same}
use Rattle.df_end.specs.Shards.{ShardHolds}
use Rattle.df_shard.specs.Owns.{OwnPart}
use Rattle.df_shard.specs.Holds as holds
use Rattle.df_shard.specs.Holds.{View, Holds, Hopping, Wait, Waits, armed_in, armed_of, holder_of, is_armed, part_in, staged_at, staged_of, wait_at, world_of}
use Rattle.df_shard.specs.Changes.{armed_wait, with_wait}
use Rattle.df_shard.specs.Came.{Comes}
use Rattle.df_shard.specs.Arming.{arm, fits, is_idle}
use Rattle.df_shard.proofs.Waitings.{at-each, at-with, at-with-else, each-with, once-with, puts-with, with-same}

both-true : (a b : Bool) → (a && b) ≡ true → (a ≡ true) × (b ≡ true)
both-true true b e = (refl, e)
both-true false b e = absurd (false≢true e)

idle-none : (o : Option Hopping) → is_idle o ≡ true → o ≡ None
idle-none None e = refl
idle-none (Some a) e = absurd (false≢true e)

not-below : (hop above : ℕ) → not (nat_lt hop above) ≡ true → above ≤ hop
not-below hop above e = go (nat_lt hop above) refl e
  where
    go : (b : Bool) → nat_lt hop above ≡ b → not b ≡ true → above ≤ hop
    go true is e = absurd (false≢true e)
    go false is e = omega (arith, ltb-false hop above is)

-- ---- the call with its hop armed

armed-more : (x : View) (w : Wait) (hop : ℕ) (act : Act) → wait_at w.number x.waiting ≡ Some w → (m : ℕ) →
    armed_in (with_wait w.number (armed_wait w hop act) x.waiting) m ≤ armed_in x.waiting m + count m (w.number ∷ [])
armed-more x w hop act here m = dite (ℕ_discrete m w.number)
    (λ (is : m ≡ w.number). subst (λ i. armed_in (with_wait w.number (armed_wait w hop act) x.waiting) i ≤ armed_in x.waiting i + count i (w.number ∷ [])) (sym is)
    (omega (arith, ap (λ o. is_armed (armed_of o)) (at-with w.number (armed_wait w hop act) x.waiting w refl here), hit-same w.number)))
    (λ (no : m ≢ w.number). omega (arith, ap (λ o. is_armed (armed_of o)) (at-with-else w.number (armed_wait w hop act) x.waiting m refl no)))

staged-same : (x : View) (w : Wait) (hop : ℕ) (act : Act) → wait_at w.number x.waiting ≡ Some w → (m : ℕ) →
    staged_at m x.waiting ≡ staged_at m (with_wait w.number (armed_wait w hop act) x.waiting)
staged-same x w hop act here m = dite (ℕ_discrete m w.number)
    (λ (is : m ≡ w.number). subst (λ i. staged_at i x.waiting ≡ staged_at i (with_wait w.number (armed_wait w hop act) x.waiting)) (sym is)
    (ap staged_of here ∙ sym (ap staged_of (at-with w.number (armed_wait w hop act) x.waiting w refl here))))
    (λ (no : m ≢ w.number). sym (ap staged_of (at-with-else w.number (armed_wait w hop act) x.waiting m refl no)))

arms : (x : View) (w : Wait) (hop : ℕ) (act : Act) → Holds x → wait_at w.number x.waiting ≡ Some w → w.above ≤ hop →
    Comes x w.number hop act → Holds (record x { waiting = with_wait w.number (armed_wait w hop act) x.waiting })
arms x w hop act h here above c = record {
  some = h.some;
  index = h.index;
  book = h.book;
  own = h.own;
  holds = subst (ShardHolds x.shards x.first (armed_in ws) x.pass) world
      record { kept = h.holds.kept; log = h.holds.log; waiting = h.holds.waiting; known = h.holds.known; room = λ m. omega (arith, c.room m, armed-more x w hop act here m) };
  once = once-with w.number (armed_wait w hop act) x.waiting refl h.once;
  waits = each-with (Waits x.shards x.index x.places x.pass) (Waits x.shards x.index x.places x.pass) w.number (armed_wait w hop act) x.waiting (λ v other k. k)
      record { queued = mine.queued; known = mine.known; below = mine.below; armed = (above, c.is_due); bare = tt } h.once h.waits;
  room = omega (arith, h.room, puts-with w.number (armed_wait w hop act) x.waiting w here);
  mine = subst (OwnPart x.shards x.index) part h.mine;
}
  where
    ws : List Wait
    ws = with_wait w.number (armed_wait w hop act) x.waiting

    mine : Waits x.shards x.index x.places x.pass w
    mine = at-each (Waits x.shards x.index x.places x.pass) w.number x.waiting w here h.waits

    part : part_in x ≡ part_in (record x { waiting = with_wait w.number (armed_wait w hop act) x.waiting })
    part = λ j. record { visible = x.keys; staged = λ m. staged-same x w hop act here m j }

    world : world_of x ≡ world_of (record x { waiting = with_wait w.number (armed_wait w hop act) x.waiting })
    world = λ j. record {
      state = part j;
      holders = map (holder_of x.shards) x.holders;
      queue = map holds.place_of x.places;
      ran = x.ran;
      log = acts_of x.pass.log;
    }

-- it is armed where it fits
pub armed-holds : (x : View) (w : Wait) (hop : ℕ) (act : Act) → Holds x → wait_at w.number x.waiting ≡ Some w → Comes x w.number hop act →
    Holds (record x { waiting = with_wait w.number (arm w hop act) x.waiting })
armed-holds x w hop act h here c = go (fits w hop) refl
  where
    go : (b : Bool) → fits w hop ≡ b → Holds (record x { waiting = with_wait w.number (cond b (armed_wait w hop act) w) x.waiting })
    go true is = arms x w hop act h here (not-below hop w.above (both-true (is_idle w.armed) (not (nat_lt hop w.above)) is).1) c
    go false is = subst (λ ws. Holds (record x { waiting = ws })) (sym (with-same w.number w x.waiting here)) h
