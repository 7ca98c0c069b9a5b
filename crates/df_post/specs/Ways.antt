-- The way to one shard and back, in one thread.
use Rattle.std.specs.Prelude.{◌≡◌, ℕ, Bool, true, false, is_some, Option, Some, None}
use Rattle.std.specs.Option.{option_map}
use Rattle.df_book.specs.Passes.{BookName}
use Rattle.df_hops.specs.Shown.{book_shown}
use Rattle.df_hops.specs.declared.message.Message.{Message}
use Rattle.df_hops.specs.declared.answer.Answer.{Answer}
use Rattle.df_post.specs.Fits.{awaited_by, fits}
use Rattle.df_post.specs.declared.awaited.Awaited.{Awaited}
use Rattle.df_post.specs.declared.way.Way.TheInside.{Inside}

pub record WayView : Type 0 where
  pub book : BookName
  pub shard : ℕ
  -- what awaits its answer
  pub awaits : Option Awaited
  -- whether a message lies there
  pub sent : Bool
  -- of an answer that lies there, whether it fits what awaits
  pub lies : Option Bool

abbrev pub fits_there : Option Awaited → ℕ → Answer → Bool
fits_there None s answer = false
fits_there (Some a) s answer = fits a s answer

abbrev pub way_of : Inside → WayView
way_of w = record {
  book = w.book.value;
  shard = w.shard;
  awaits = w.awaits;
  sent = is_some w.out;
  lies = option_map (fits_there w.awaits w.shard) w.back;
}

-- what lies there is of this shard and this book
abbrev pub IsMine : BookName → ℕ → Option Message → Type 0
IsMine z s None = Unit {0}
IsMine z s (Some m) = (m.shard ≡ s) × (m.ticket.book ≡ z)

abbrev pub IsBack : BookName → Option Answer → Type 0
IsBack z None = Unit {0}
IsBack z (Some answer) = book_shown z answer.body ≡ z

abbrev pub IsKept : Inside → Type 0
IsKept w = IsMine w.book.value w.shard w.out × IsBack w.book.value w.back

-- a message was put there
pub record WaySent (old new : WayView) (m : Message) : Type 0 where
  pub was : old.sent ≡ false
  pub book : new.book ≡ old.book
  pub shard : new.shard ≡ old.shard
  pub awaits : new.awaits ≡ Some (awaited_by m)
  pub sent : new.sent ≡ true
  pub lies : is_some new.lies ≡ is_some old.lies

-- the answer that awaited there was taken
pub record WayTook (old new : WayView) (answer : Answer) : Type 0 where
  pub awaited : Awaited
  pub was : old.awaits ≡ Some awaited
  pub lay : old.lies ≡ Some true
  pub fit : fits awaited old.shard answer ≡ true
  pub shown : book_shown old.book answer.body ≡ old.book
  pub after : new ≡ record old { awaits = None; lies = None }
