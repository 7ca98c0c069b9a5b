-- The scheduler invariant: what is true of each shard at any moment.
use Rattle.std.specs.Prelude.{◌≡◌, ℕ, ◌<◌, true, false, Some, List}
use Rattle.df_order.specs.Lists.{Has, Chain}
use Rattle.df_order.specs.Model.{Model, Whole, clash, own, upto, replay, IsInOrder, Alike}
use Rattle.df_order.specs.Shards.{Place, Holder, Queued, greatest}
use Rattle.df_world.specs.World.{World}

-- these entries are all hops of the call, and those of this shard are in its log
pub record AllEntered (M : Model) (c : M.Call) (n s : ℕ) (log : List M.Entry) : Type 0 where
  pub hops : ℕ → List M.Entry
  pub here : hops s ≡ own M n log
  pub whole : Whole M c hops

pub record Invariant (M : Model) (w : World M) (start : ℕ → M.State) (s : ℕ) : Type 0 where
  -- who waits stands in the order of the numbers, none twice
  pub sorted : Chain (λ p q. p.number < q.number) (w.shard s).queue
  -- the holders are those who wait, each with its footprint
  pub held :
      (p : Place) → Has (w.shard s).queue p → (h : Holder M) × Has (w.shard s).holders h × (h.number ≡ p.number)
  pub holding :
      (h : Holder M) → Has (w.shard s).holders h →
      Queued (w.shard s).queue h.number × (M.footprint (w.call h.number) s ≡ Some h.keys)
  -- of two waiting calls that conflict the higher isn't granted
  pub grants :
      (p q : Place) → Has (w.shard s).queue p → Has (w.shard s).queue q → p.number < q.number →
      clash M w.call s p.number q.number ≡ true → q.granted ≡ false
  -- a waiting call conflicts with no higher number that ran
  pub ahead :
      (p : Place) (e : M.Entry) → Has (w.shard s).queue p → Has (w.shard s).log e → p.number < M.number e →
      clash M w.call s p.number (M.number e) ≡ false
  -- the shard knows the greatest number that ran, and every number that ran was drawn
  pub ran_is : (w.shard s).ran ≡ greatest M (w.shard s).log
  pub drawn : (e : M.Entry) → Has (w.shard s).log e → (0 < M.number e) × (M.number e < w.counter)
  pub in_order : IsInOrder M w.call s (w.shard s).log
  -- a number that ran and doesn't wait ran all its hops
  pub complete :
      (e : M.Entry) → Has (w.shard s).log e → (Queued (w.shard s).queue (M.number e) → ⊥) →
      AllEntered M (w.call (M.number e)) (M.number e) s (w.shard s).log
  -- the state is that of the log, also of the log sorted by number, where each entry fits
  pub replayed : (w.shard s).state ≡ replay M (start s) (w.shard s).log
  pub sorts : Alike M w.call s (start s) (w.shard s).log (upto M w.counter (w.shard s).log)
  -- nothing is staged for who doesn't wait, and what is staged for who waits is its call's to write
  pub bare : (n : ℕ) → (Queued (w.shard s).queue n → ⊥) → M.slot n (w.shard s).state ≡ M.bare
  pub good : (n : ℕ) → Queued (w.shard s).queue n → M.Good s (w.call n) n (w.shard s).state
