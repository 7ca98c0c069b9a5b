-- The messages of one time to several shards, and their answers.
use Rattle.std.specs.Prelude.{◌≡◌, ℕ, ◌-◌, ◌^◌, ◌<◌, ◌≤◌, min, Bool, true, false, Option, Some, None, List, length, get_or, map, set}
use Rattle.df_book.specs.Passes.{BookName}
use Rattle.df_caller.specs.Calling.{Rose}
use Rattle.df_hops.specs.Shown.{book_shown}
use Rattle.df_hops.specs.declared.answer.Answer.{Answer}
use Rattle.df_post.specs.Fits.{awaited_by, fits}
use Rattle.df_post.specs.Postings.{Posting, awaits_at, shards_of}
use Rattle.df_post.specs.declared.awaited.Awaited.{Awaited}
use Rattle.df_post.specs.declared.slot.Slot.{Slot}
use Rattle.df_post.specs.declared.slot.Slot.TheVariants as in_slot
use Rattle.df_post.specs.declared.round.Round.TheInside.{Inside}

-- ---- one shard's place

-- where the message to a shard stands, and what awaits or has its answer
pub data Place : Type 0 where
  Idle : Place
  Unsent : Awaited → Place
  Sent : Awaited → Place
  Answered : Awaited → Place

-- what of it awaits its answer on the post
abbrev pub awaited_in : Place → Option Awaited
awaited_in Idle = None
awaited_in (Unsent a) = None
awaited_in (Sent a) = Some a
awaited_in (Answered a) = None

-- no message is there, or its answer came
abbrev pub is_done : Place → Bool
is_done Idle = true
is_done (Unsent a) = false
is_done (Sent a) = false
is_done (Answered a) = true

-- a message goes on its way, or its answer comes
pub data Goes : Place → Place → Type 0 where
  stays : (p : Place) → Goes p p
  sent : (a : Awaited) → Goes (Unsent a) (Sent a)
  came : (a : Awaited) → Goes (Sent a) (Answered a)

-- the post's count of waits never fell, and rose where a message is no further than it was
pub record Counts (was is : Place) (before now : ℕ) : Type 0 where
  pub kept : min before (2 ^ 64 - 1) ≤ now
  pub rose : is ≡ was → is_done was ≡ false → Rose before now

-- ---- all of them

pub record RoundView : Type 0 where
  -- the book that its messages and answers are of
  pub book : BookName
  -- that of each shard, in order
  pub places : List Place

abbrev pub place_at : ℕ → RoundView → Place
place_at s r = get_or r.places s Idle

-- the post has what the round sent, and nothing else awaits there
pub record Matches (r : RoundView) (p : Posting) : Type 0 where
  pub book : r.book ≡ p.book
  pub shards : shards_of p ≡ length r.places
  pub awaits : (s : ℕ) → awaits_at s p ≡ awaited_in (place_at s r)

-- ---- the memory that it has

abbrev pub place_of : Slot → Place
place_of in_slot.Idle = Idle
place_of (in_slot.Unsent m) = Unsent (awaited_by m)
place_of (in_slot.Sent a) = Sent a.value
place_of (in_slot.Answered a answer) = Answered a.value

-- the slot of shard s
abbrev pub slot_at : ℕ → List Slot → Slot
slot_at s l = get_or l s in_slot.Idle

-- the message there is to this shard and of this book, and the answer fits
abbrev pub IsMine : BookName → ℕ → Slot → Type 0
IsMine z s in_slot.Idle = Unit {0}
IsMine z s (in_slot.Unsent m) = (m.shard ≡ s) × (m.ticket.book ≡ z)
IsMine z s (in_slot.Sent a) = Unit {0}
IsMine z s (in_slot.Answered a answer) = (fits a.value s answer ≡ true) × (book_shown z answer.body ≡ z)

-- this answer lies there
abbrev pub Lies : Slot → Answer → Type 0
Lies in_slot.Idle answer = ⊥
Lies (in_slot.Unsent m) answer = ⊥
Lies (in_slot.Sent a) answer = ⊥
Lies (in_slot.Answered a held) answer = held ≡ answer

abbrev pub round_of : Inside → RoundView
round_of r = record { book = r.book.value; places = map place_of r.slots.items }

pub record IsKept (r : Inside) : Type 0 where
  pub few : length r.slots.items < 2 ^ 32
  pub mine : (s : ℕ) → IsMine r.book.value s (slot_at s r.slots.items)

-- of what awaits on the post only this shard's changed, to this
pub record OnlyAt (s : ℕ) (a : Option Awaited) (old new : Posting) : Type 0 where
  pub book : new.book ≡ old.book
  pub awaits : new.awaits ≡ set old.awaits s a
