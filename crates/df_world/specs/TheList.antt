-- The one list of a world: the calls that are finished, in the order of their numbers.
use Rattle.std.specs.Prelude.{◌≡◌, ℕ, pred, Bool, true, false, List}
use Rattle.df_order.specs.Model.{Model}
use Rattle.df_order.specs.Histories.{Item, entries, items_where}
use Rattle.df_world.specs.World.{World, logs, Finished}

-- the test tells which numbers are finished, and these are their replies
pub record Finds (M : Model) (w : World M) (finished : ℕ → Bool) (replies : ℕ → M.Reply) : Type 0 where
  pub yes : (n : ℕ) → finished n ≡ true → M.Gives (w.call n) (entries M (logs M w) n) (replies n)
  pub no : (n : ℕ) → finished n ≡ false → Finished M w n → ⊥

-- an item for each number that is finished, of so many numbers from the first on
abbrev pub finished_items : (M : Model) → World M → (ℕ → Bool) → (ℕ → M.Reply) → ℕ → ℕ → List (Item M)
finished_items M w finished replies n count = items_where M w.call (logs M w) replies finished n count

abbrev pub the_list : (M : Model) → World M → (ℕ → Bool) → (ℕ → M.Reply) → List (Item M)
the_list M w finished replies = finished_items M w finished replies 1 (pred w.counter)
