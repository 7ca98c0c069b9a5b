-- What the first pass knows after it took over shards' logs.
use Rattle.std.specs.Prelude.{◌≡◌, ℕ, ◌<◌, ◌≤◌, ◌++◌, ◌∷◌, [], List}
use Rattle.df_book.specs.Weights.{count, Each}
use Rattle.df_book.specs.Logs.{at_log, Within}
use Rattle.df_book.specs.Passes.{Shard}
use Rattle.df_book.specs.declared.draw.Draw.{Draw}
use Rattle.df_book.specs.declared.view.View.{View}

-- it owns the shard's log, and has it whole
abbrev pub IsTaken : View → Shard → Type 0
IsTaken v p = (0 < count p.shard v.owns) × (at_log v.seen p.shard ≡ p.log)

abbrev pub all_known : List Shard → List Draw
all_known [] = []
all_known (p ∷ passes) = p.known ++ all_known passes

-- what these shards knew has come to it, and else it is as before
pub record TakesAll (old : View) (passes : List Shard) (now : View) : Type 0 where
  pub first : now.first ≡ old.first
  pub splits : now.splits ≡ old.splits
  pub sessions : (i : ℕ) → count i old.sessions ≤ count i now.sessions
  pub own : now.own ≡ old.own
  pub made : now.made ≡ old.made
  pub known : now.known ≡ old.known ++ all_known passes
  pub before : Within old.seen now.seen
  pub theirs : Each (λ (p : Shard). Within p.seen now.seen) passes
  pub taken : Each (IsTaken now) passes
  -- a log that it owned is as it was
  pub still : (s : ℕ) → 0 < count s old.owns → (0 < count s now.owns) × (at_log now.seen s ≡ at_log old.seen s)
