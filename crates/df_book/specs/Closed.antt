-- A closed book.
use Rattle.std.specs.Prelude.{ℕ, ◌<◌, ◌≤◌, List, length}
use Rattle.df_log.specs.declared.entry.Entry.{Entry}
use Rattle.df_book.specs.Weights.{count, Each}
use Rattle.df_book.specs.Logs.{at_log, uses_in}
use Rattle.df_book.specs.Draws.{Numbered, IsDraw}
use Rattle.df_book.specs.declared.draw.Draw.{Draw}

pub record Closed : Type 0 where
  -- the shards' logs by their number, and that of the save place behind them
  pub logs : List (List Entry)
  -- all draws, in the order in which their passes were joined
  pub draws : List Draw
  -- the number of each running ticket that was made
  pub made : List ℕ
  -- what was known of draws
  pub known : List Draw

-- what is known once all passes were joined
pub record Settled (book : Closed) : Type 0 where
  pub numbered : Numbered book.draws
  -- each entry's number was drawn
  pub drawn : (s : ℕ) → Each (λ (e : Entry). (0 < e.number) × (e.number ≤ length book.draws)) (at_log book.logs s)
  -- entries and Passed notes are no more than running tickets
  pub tickets : (n c : ℕ) → uses_in n book.logs c ≤ count n book.made
  -- what any pass knew of a number is its draw
  pub known : Each (IsDraw book.draws) book.known
