-- What the queue's rule tells a pass.
use Rattle.std.specs.Prelude.{◌≡◌, ℕ, List, ◌++◌}
use Rattle.df_shardqueue.specs.Placed.{Each, Rises, StandsIn, items_of}

-- There is one order of all that was ever pushed to the queue: first what was popped, then the items that it holds. What this pass pushed and popped stands there, each at its place and once.
-- Where every other pass was joined into this one, it has pushed and popped all of it
pub record Told {M : Type 0} (IsWhole : Type 0) (sent taken : List (ℕ × M)) (items : List M) : Type 0 where
  pub gone : List M
  pub sent_rises : Rises sent
  pub taken_rises : Rises taken
  pub sent_stands : Each (StandsIn (gone ++ items)) sent
  pub taken_stands : Each (StandsIn gone) taken
  pub all_sent : IsWhole → items_of sent ≡ gone ++ items
  pub all_taken : IsWhole → items_of taken ≡ gone
