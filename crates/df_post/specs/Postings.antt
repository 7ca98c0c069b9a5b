-- What is known of a post, and what its calls do to that.
use Rattle.std.specs.Prelude.{◌≡◌, ℕ, ◌≤◌, true, Option, Some, None, List, length, get_or, set}
use Rattle.df_book.specs.Passes.{BookName}
use Rattle.df_caller.specs.Calling.{Rose}
use Rattle.df_hops.specs.Shown.{book_shown}
use Rattle.df_hops.specs.declared.message.Message.{Message}
use Rattle.df_hops.specs.declared.answer.Answer.{Answer}
use Rattle.df_post.specs.Fits.{awaited_by, fits}
use Rattle.df_post.specs.declared.awaited.Awaited.{Awaited}

pub record Posting : Type 0 where
  -- the book that its messages and answers are of
  pub book : BookName
  -- of each shard that it has, what awaits its answer there
  pub awaits : List (Option Awaited)
  -- how often a send found no room or a take no answer, at most 2 ^ 64 - 1
  pub stalls : ℕ

-- what awaits its answer on the shard
abbrev pub awaits_at : ℕ → Posting → Option Awaited
awaits_at s p = get_or p.awaits s None

-- how many shards it has
abbrev pub shards_of : Posting → ℕ
shards_of p = length p.awaits

-- nothing awaits on any shard
abbrev pub IsIdle : Posting → Type 0
IsIdle p = (s : ℕ) → awaits_at s p ≡ None

-- the message is on its way
pub record Sent (old new : Posting) (m : Message) : Type 0 where
  pub book : new.book ≡ old.book
  pub awaits : new.awaits ≡ set old.awaits m.shard (Some (awaited_by m))
  pub stalls : old.stalls ≤ new.stalls

-- the answer fits what awaited there, and nothing awaits there now
pub record Took (old new : Posting) (s : ℕ) (answer : Answer) : Type 0 where
  pub awaited : Awaited
  pub was : awaits_at s old ≡ Some awaited
  pub fit : fits awaited s answer ≡ true
  pub shown : book_shown old.book answer.body ≡ old.book
  pub book : new.book ≡ old.book
  pub awaits : new.awaits ≡ set old.awaits s None
  pub stalls : old.stalls ≤ new.stalls

-- nothing came or went, which was counted
pub record Stalled (old new : Posting) : Type 0 where
  pub book : new.book ≡ old.book
  pub awaits : new.awaits ≡ old.awaits
  pub rose : Rose old.stalls new.stalls
