-- What every event keeps of the whole world. It is one shard's invariant for each shard, and what ties the shards.
use Rattle.std.specs.Prelude.{◌≡◌, ◌≢◌, ℕ, ◌<◌, ◌≤◌, true, None}
use Rattle.df_order.specs.Lists.{Has}
use Rattle.df_order.specs.Model.{Model}
use Rattle.df_order.specs.Shards.{Place, Queued, Kept}
use Rattle.df_world.specs.World.{Fresh, Taken, Done, IsTaken, IsActive, World, Finished}

pub record Sound (M : Model) (start : ℕ → M.State) (w : World M) : Type 0 where
  pub shards : (s : ℕ) → Kept M w.call s (start s) (w.shard s)
  -- who is taken is queued, and who is queued is taken
  pub queued : (s n : ℕ) → IsTaken (w.phase s n) → Queued (w.shard s).queue n
  pub taken : (s : ℕ) (p : Place) → Has (w.shard s).queue p → IsTaken (w.phase s p.number)
  -- a number with an entry waits or is done on each shard that its call names
  pub active :
      (s : ℕ) (e : M.Entry) → Has (w.shard s).log e → (t : ℕ) → M.footprint (w.call (M.number e)) t ≢ None →
      IsActive (w.phase t (M.number e))
  pub named : (s : ℕ) (e : M.Entry) → Has (w.shard s).log e → M.footprint (w.call (M.number e)) s ≢ None
  -- a number that is done on a shard ran all its hops
  pub done : (s n : ℕ) → w.phase s n ≡ Done → Finished M w n
  -- only numbers that were drawn come to a shard, and only to those that their calls name
  pub drawn : (s n : ℕ) → w.phase s n ≢ Fresh → (0 < n) × (n < w.counter)
  pub asked : (s n : ℕ) → w.phase s n ≢ Fresh → M.footprint (w.call n) s ≢ None
  pub by_quick : (s n : ℕ) → w.phase s n ≡ Taken true → M.quick (w.call n) ≡ true
  -- what is staged for a number is its call's to write, whatever the call of a number that wasn't drawn yet
  pub good : (s n : ℕ) → n < w.counter → M.Good s (w.call n) n (w.shard s).state
  pub clean : (s n : ℕ) (c : M.Call) → w.counter ≤ n → M.Good s c n (w.shard s).state
  pub counted : 0 < w.counter
