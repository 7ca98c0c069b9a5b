-- What the seats of a table know together. One list of draws and the logs stand behind them, which no seat has.
use Rattle.std.specs.Prelude.{◌≡◌, ℕ, suc, ◌+◌, ◌%◌, ◌^◌, ◌<◌, ◌≤◌, ◌==◌, List, [], length, cond, slice_index, slice_get, Some}
use mathlib.Core.Option.{some}
use lib.ListN.{get_elem?}
use Rattle.atomic_table.specs.Table.{State}
use Rattle.df_log.specs.declared.entry.Entry.{Entry}
use Rattle.df_book.specs.Weights.{total, below, Each}
use Rattle.df_book.specs.Logs.{at_log, Within, use_of}
use Rattle.df_book.specs.Draws.{draws_of}
use Rattle.df_book.specs.declared.draw.Draw.{Draw}
use Rattle.df_book.specs.declared.view.Said.{Said}
use Rattle.df_book.specs.declared.view.View.{View}

-- ---- one seat

abbrev pub IsDrawn : List Draw → Draw → Type 0
IsDrawn book d = (k : ℕ) × (slice_get book k ≡ Some d)

-- 1 at a running ticket of the number n that counts for the log s
abbrev pub pair_of : ℕ → ℕ → ℕ × ℕ → ℕ
pair_of s n p = cond (s == p.0) (cond (p.1 == n) 1 0) 0

-- it knows the log s whole, and took a running ticket for each entry and Passed note there
abbrev pub Owner : List (List Entry) → View → ℕ → Type 0
Owner logs v s = (at_log v.seen s ≡ at_log logs s) × ((n : ℕ) → total (use_of n) (at_log logs s) ≤ total (pair_of s n) v.counted)

pub record Fits (book : List Draw) (logs : List (List Entry)) (v : View) : Type 0 where
  -- what it knows of draws was drawn, and what it has seen stands in the logs
  pub own : Each (IsDrawn book) v.own
  pub known : Each (IsDrawn book) v.known
  pub seen : Within v.seen logs
  pub left : Within v.left v.seen
  pub right : Within v.right v.seen
  pub owner : Each (Owner logs v) v.owns
  -- only callers draw
  pub caller : v.first ≡ 0 → v.sessions ≡ [] → (v.own ≡ []) × (v.budget ≡ 0) × (v.made ≡ [])
  pub splits : v.first ≡ 0 → v.splits ≡ 0
  -- running tickets are of own numbers
  pub made : Each (λ (n : ℕ). 0 < draws_of n v.own) v.made

-- ---- all seats, over n logs

abbrev pub second : (ℕ → ℕ) → ℕ × ℕ → ℕ
second f p = f p.1

-- Where it says that two lists have the same elements, their sums are the same for every weight of an element.
pub record Kept (n : ℕ) (s : State Said View) : Type 0 where
  pub book : List Draw
  pub logs : List (List Entry)
  -- word 0 is the next number, and the words behind it are the lengths of the logs
  pub wide : length s.words ≡ suc n
  pub counter : slice_index s.words 0 ≡ suc (length book)
  pub lengths : (i : ℕ) → i < n → slice_index s.words (suc i) ≡ length (at_log logs i) % 2 ^ 64
  -- the draws have the numbers 1, 2 and so on
  pub numbered : (k : ℕ) (d : Draw) → slice_get book k ≡ Some d → d.number ≡ suc k
  -- there are numbers for all budgets
  pub room : total (λ (v : View). v.budget) s.views + suc (length book) ≤ 2 ^ 63
  -- each draw is one caller's
  pub owned : (f : Draw → ℕ) → total (λ (v : View). total f v.own) s.views ≡ total f book
  -- each pass that was split off the first is somewhere
  pub seated : (f : ℕ → ℕ) → total (λ (v : View). total f v.sessions) s.views ≡ below f (total (λ (v : View). v.splits) s.views)
  pub one_first : total (λ (v : View). v.first) s.views ≡ 1
  -- each log has one owner
  pub shelved : (f : ℕ → ℕ) → total (λ (v : View). total f v.owns) s.views ≡ below f n
  -- running tickets, counted or still out, were made
  pub running : (f : ℕ → ℕ) → total (λ (v : View). total f v.runs) s.views + total (λ (v : View). total (second f) v.counted) s.views ≤ total (λ (v : View). total f v.made) s.views
  -- each entry's number was drawn, and no log stands behind the last
  pub entered : (i : ℕ) → Each (λ (e : Entry). (0 < e.number) × (e.number < suc (length book))) (at_log logs i)
  pub inside : (i : ℕ) → n ≤ i → at_log logs i ≡ []
  pub each : (j : ℕ) (v : View) → get_elem? s.views j ≡ some v → Fits book logs v
