-- Each number is above all that its caller had seen when it drew it.
use Rattle.std.specs.Prelude.{◌≡◌, ◌≢◌, ℕ, ◌<◌, ◌≤◌, None, ◌⊎◌}
use Rattle.df_order.specs.Lists.{Has}
use Rattle.df_order.specs.Model.{Model}
use Rattle.df_world.specs.World.{Out, World, logs}

-- a log has an entry of the number
abbrev pub Entered : (M : Model) → World M → ℕ → Type 0
Entered M w n = (s : ℕ) × (e : M.Entry) × Has (logs M w s) e × (M.number e ≡ n)

-- no log will have an entry of the number: a shard is without it, or its call names none
abbrev pub Never : (M : Model) → World M → ℕ → Type 0
Never M w n =
    ((s : ℕ) × (M.footprint (w.call n) s ≢ None) × (w.phase s n ≡ Out)) ⊎ ((s : ℕ) → M.footprint (w.call n) s ≡ None)

pub record Seen (M : Model) (w : World M) : Type 0 where
  pub floors : (n : ℕ) → 0 < n → n < w.counter → w.floor n < n
  -- an earlier number of the same caller has its entries, or never has one
  pub earlier :
      (m n : ℕ) → 0 < m → m < n → n < w.counter → w.caller m ≡ w.caller n → Entered M w m ⊎ Never M w m
  -- and the caller had seen those entries
  pub told : (m n : ℕ) → 0 < m → m < n → n < w.counter → w.caller m ≡ w.caller n → Entered M w m → m ≤ w.floor n
