-- What runs a connection's calls of one hop, between its steps.
use Rattle.std.specs.Prelude.{◌≡◌, ◌≢◌, ℕ, ◌+◌, ◌<◌, Option, Some, None}
use Rattle.df_model.specs.Replies.{encoding_of}
use Rattle.df_model.specs.declared.command.Call.{Call}
use Rattle.df_model.specs.declared.reply.Reply.{Reply}
use Rattle.df_core.specs.Done.{want_of_memory}
use Rattle.df_book.specs.Draws.{Bounded}
use Rattle.df_book.specs.Passes.{BookName, Caller}
use Rattle.df_caller.specs.declared.caller.Went.{Went}
use Rattle.df_caller.specs.declared.caller.Went.TheVariants as went
use Rattle.df_post.specs.Fits.{awaited_by}
use Rattle.df_post.specs.Postings.{Posting, IsIdle, awaits_at, shards_of}
use Rattle.df_post.specs.declared.awaited.Awaited.{Awaited}
use Rattle.df_hops.specs.Parts.{hash_for}
use Rattle.df_coord.specs.Asking.{Asked, RunsAlone, awaited_for}
use Rattle.df_coord.specs.Rows.{CallPassed, CallRan}
use Rattle.df_coord.specs.declared.state.State.{State}
use Rattle.df_coord.specs.declared.state.State.TheVariants as states

-- ---- what is seen

pub record Seen : Type 0 where
  pub book : BookName
  pub shards : ℕ
  -- the pass as it was when the call under way began, and as it is
  pub before : Caller
  pub pass : Caller
  pub state : State
  pub posting : Posting

abbrev pub see : BookName → ℕ → Caller → Caller → State → Posting → Seen
see book shards before pass state posting =
    record { book = book; shards = shards; before = before; pass = pass; state = state; posting = posting }

-- the call under way
abbrev pub under : State → Option Call
under states.Idle = None
under (states.Due slip s hash) = Some slip.value.call
under (states.Unsent m hash call) = Some call.value
under (states.Sent n s hash call) = Some call.value

-- ---- what holds between two steps

-- it was drawn, and each time before that it ran nothing
pub record Drawn (shards s hash : ℕ) (before u : Caller) (call : Call) (n : ℕ) : Type 0 where
  pub runs : RunsAlone shards s call
  pub hashed : hash ≡ hash_for hash call
  pub drawer : Caller
  pub passed : CallPassed shards before drawer call
  pub asked : Asked drawer u call n

-- this awaits its answer on the shard, and nothing on any other
abbrev pub AwaitsAlone : ℕ → Awaited → Posting → Type 0
AwaitsAlone s a p = (awaits_at s p ≡ Some a) × ((t : ℕ) → t ≢ s → awaits_at t p ≡ None)

abbrev pub StandsAs : State → Seen → Type 0
StandsAs states.Idle x = IsIdle x.posting
StandsAs (states.Due slip s hash) x =
    IsIdle x.posting × RunsAlone x.shards s slip.value.call × (hash ≡ hash_for hash slip.value.call)
    × CallPassed x.shards x.before x.pass slip.value.call
StandsAs (states.Unsent m hash call) x =
    IsIdle x.posting × Drawn x.shards m.shard hash x.before x.pass call.value m.number
    × (awaited_by m ≡ awaited_for m.number) × (m.ticket.book ≡ x.book)
StandsAs (states.Sent n s hash call) x =
    AwaitsAlone s (awaited_for n) x.posting × Drawn x.shards s hash x.before x.pass call.value n

pub record Going (x : Seen) : Type 0 where
  pub some : 0 < x.shards
  pub words : x.book.words ≡ x.shards + 2
  pub pass : x.pass.book ≡ x.book
  pub caller : x.pass.first ≡ 0
  pub bounded : Bounded x.pass.own x.pass.made x.pass.seen
  pub post : x.posting.book ≡ x.book
  pub shards : shards_of x.posting ≡ x.shards
  pub stands : StandsAs x.state x

-- ---- a step

-- the call under way came to its end, and nothing is on its way
pub record Ends (old new : Seen) (call : Call) : Type 0 where
  pub was : under old.state ≡ Some call
  pub idle : new.state ≡ states.Idle

pub record Replied (old new : Seen) (call : Call) (reply : Reply) : Type 0 where
  pub ends : Ends old new call
  pub ran : CallRan old.shards old.before new.pass call reply

-- it ran nothing, each time that it was drawn
pub record GaveUp (old new : Seen) (call : Call) : Type 0 where
  pub ends : Ends old new call
  pub passed : CallPassed old.shards old.before new.pass call

-- it goes on
pub record GoesOn (old new : Seen) : Type 0 where
  pub under : under new.state ≡ under old.state
  pub before : new.before ≡ old.before

abbrev pub Stepped : Went → Seen → Seen → Type 0
Stepped went.Pending old new = GoesOn old new
Stepped (went.Finished slip) old new = (call : Call) × (reply : Reply) × Replied old new call reply × (slip.value.reply ≡ encoding_of reply)
Stepped (went.Unsaid slip) old new = (call : Call) × (reply : Reply) × Replied old new call reply
Stepped (went.NoMemory slip) old new = (call : Call) × GaveUp old new call
Stepped (went.Spent slip) old new = (call : Call) × GaveUp old new call

-- the reply is that there was no memory, or it found no memory itself
abbrev pub Says : Went → Type 0
Says went.Pending = ⊥
Says (went.Finished slip) = slip.value.reply ≡ encoding_of want_of_memory
Says (went.Unsaid slip) = Unit {0}
Says (went.NoMemory slip) = ⊥
Says (went.Spent slip) = ⊥
