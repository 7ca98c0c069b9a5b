-- What runs a connection's calls of many hops, but for the way to the shards, between its steps.
use Rattle.std.specs.Prelude.{◌≡◌, ℕ, ◌+◌, ◌<◌, true, false, Bool, Option, Some, None, List, length}
use Rattle.df_model.specs.Calls.{IsCall}
use Rattle.df_model.specs.Replies.{encoding_of}
use Rattle.df_model.specs.declared.command.Call.{Call}
use Rattle.df_model.specs.declared.reply.Reply.{Reply}
use Rattle.df_core.specs.History.{NamesAShard}
use Rattle.df_book.specs.Weights.{Each, count}
use Rattle.df_book.specs.Logs.{AllBelow}
use Rattle.df_book.specs.Draws.{Bounded, draws_of, last_number}
use Rattle.df_book.specs.Passes.{Caller, after_draw}
use Rattle.df_book.specs.declared.draw.Draw.{Draw}
use Rattle.df_caller.specs.declared.caller.Went.{Went}
use Rattle.df_caller.specs.declared.caller.Went.TheVariants as went
use Rattle.df_rounds.specs.Progress.{Progress}
use Rattle.df_rounds.specs.Between.{Between}
use Rattle.df_post.specs.Postings.{Posting, shards_of}
use Rattle.df_post.specs.Rounds.{Matches, place_at}
use Rattle.df_post.specs.declared.awaited.Kind.TheVariants as kinds
use Rattle.df_coord.specs.Rows.{CallPassed, CallRan}
use Rattle.df_exchange.specs.Exchanges.{Exchanging}
use Rattle.df_plan.specs.Plans.{Asks, IsOver, Planned}
use Rattle.df_many.specs.Rooms.{AllIdle, AllOf, IsRoom, is_asked}
use Rattle.df_many.specs.declared.line.Line.{Line}
use Rattle.df_many.specs.declared.state.State.{State}
use Rattle.df_many.specs.declared.state.State.TheVariants as states
use Rattle.df_many.specs.declared.state.Turned.{Turned}

-- ---- the call under way

abbrev pub under : State → Option Call
under states.Idle = None
under (states.Due slip) = Some slip.value.call
under (states.Placing turned) = Some turned.call.value
under (states.Withdrawing slip again) = Some slip.value.call
under (states.Hopping turned) = Some turned.call.value
under (states.Leaving slip said call) = Some call.value

-- ---- what holds between two steps

-- the number was drawn for the call by a caller whose pass was v then and is u now
pub record Numbered (v u : Caller) (call : Call) (n : ℕ) : Type 0 where
  pub positive : 0 < n
  pub above : Each (λ (d : Draw). d.number < n) v.own
  pub below : AllBelow n v.seen
  pub fresh : count n v.made ≡ 0
  pub bounded : Bounded v.own v.made v.seen
  pub now : u ≡ after_draw v call n

-- it was drawn, and each time before that it ran nothing; its shards were asked for places
pub record Places (t : Turned) (l : Line) : Type 0 where
  pub whole : t.slip.value.call ≡ t.call.value
  pub is_call : IsCall t.call.value
  pub drawer : Caller
  pub passed : CallPassed l.shards l.before.value drawer t.call.value
  pub numbered : Numbered drawer l.pass t.call.value t.number
  pub planned : Planned l.shards t.call.value l.room.plan t.slip.value.reply
  pub messages : AllOf kinds.Place l.room.round
  pub named : (s : ℕ) → is_asked (place_at s l.room.round) ≡ true → NamesAShard l.shards t.call.value

-- it was drawn, and each time before that it ran nothing; it has its places
pub record MaySetOut (t : Turned) (l : Line) : Type 0 where
  pub whole : t.slip.value.call ≡ t.call.value
  pub drawer : Caller
  pub passed : CallPassed l.shards l.before.value drawer t.call.value
  pub numbered : Numbered drawer l.pass t.call.value t.number
  pub planned : Planned l.shards t.call.value l.room.plan t.slip.value.reply

-- it was drawn, and each time before that it ran nothing; it is so far, between two rounds, and asks its shards next
pub record MayAsk (t : Turned) (l : Line) : Type 0 where
  pub progress : Progress
  pub asks : Asks l.shards 0 t.call.value progress l.room.plan t.slip.value
  pub drawer : Caller
  pub passed : CallPassed l.shards l.before.value drawer t.call.value
  pub between : Between l.shards drawer t.call.value t.number progress l.pass

-- and all its commands are over
pub record IsThrough (t : Turned) (l : Line) : Type 0 where
  pub progress : Progress
  pub is_over : IsOver t.call.value progress l.room.plan t.slip.value
  pub drawer : Caller
  pub passed : CallPassed l.shards l.before.value drawer t.call.value
  pub between : Between l.shards drawer t.call.value t.number progress l.pass

abbrev pub GoesOn : Bool → Turned → Line → Type 0
GoesOn true t l = MayAsk t l
GoesOn false t l = IsThrough t l

-- it was drawn, and each time before that it ran nothing; its shards were asked for the hops of a round
pub record Hops (t : Turned) (l : Line) : Type 0 where
  pub progress : Progress
  pub asks : Asks l.shards l.shards t.call.value progress l.room.plan t.slip.value
  pub drawer : Caller
  pub passed : CallPassed l.shards l.before.value drawer t.call.value
  pub exchanging : Exchanging l.shards l.shards t.number drawer t.call.value progress l.pass l.room.round

-- the call was begun, and each time that it was drawn it ran nothing
pub record IsDue (call : Call) (l : Line) : Type 0 where
  pub is_call : IsCall call
  pub passed : CallPassed l.shards l.before.value l.pass call

-- the number is the last that was drawn
pub record IsLast (n : ℕ) (l : Line) : Type 0 where
  pub own : 0 < length l.pass.own
  pub drawn : 0 < draws_of n l.pass.own
  pub last : last_number l.pass.own ≡ n

-- the call ran, and its reply lies in the slip, if it is said
pub record HasRun (call : Call) (said : Bool) (bytes : List ℕ) (l : Line) : Type 0 where
  pub reply : Reply
  pub ran : CallRan l.shards l.before.value l.pass call reply
  pub lies : said ≡ true → bytes ≡ encoding_of reply

abbrev pub StandsAs : State → Line → Type 0
StandsAs states.Idle l = AllIdle l.room.round
StandsAs (states.Due slip) l = AllIdle l.room.round × IsDue slip.value.call l
StandsAs (states.Placing turned) l = Places turned l
StandsAs (states.Withdrawing slip again) l = AllOf kinds.Free l.room.round × IsDue slip.value.call l
StandsAs (states.Hopping turned) l = Hops turned l
StandsAs (states.Leaving slip said call) l = AllOf kinds.Free l.room.round × HasRun call.value said slip.value.reply l

-- the call under way stands so
pub record Holds (state : State) (l : Line) : Type 0 where
  pub some : 0 < l.shards
  pub words : l.book.now.words ≡ l.shards + 2
  pub pass : l.pass.book ≡ l.book.now
  pub caller : l.pass.first ≡ 0
  pub bounded : Bounded l.pass.own l.pass.made l.pass.seen
  pub room : IsRoom l.book.now l.shards l.room
  pub stands : StandsAs state l

-- ---- the way to the shards

-- the post is of this book and these shards, and has what the round sent
pub record HasPost (l : Line) (p : Posting) : Type 0 where
  pub book : p.book ≡ l.book.now
  pub shards : shards_of p ≡ l.shards
  pub matches : Matches l.room.round p

-- ---- a step

-- the call under way came to its end, and nothing is on its way
pub record Ends (was : State) (new : Line) (call : Call) : Type 0 where
  pub call_was : under was ≡ Some call
  pub idle : new.state ≡ states.Idle

pub record Replied (was : State) (old new : Line) (call : Call) (reply : Reply) : Type 0 where
  pub ends : Ends was new call
  pub ran : CallRan old.shards old.before.value new.pass call reply

-- it ran nothing, each time that it was drawn
pub record GaveUp (was : State) (old new : Line) (call : Call) : Type 0 where
  pub ends : Ends was new call
  pub passed : CallPassed old.shards old.before.value new.pass call

-- From this state a step came to that.
abbrev pub Stepped : Went → State → Line → Line → Type 0
Stepped went.Pending was old new = under new.state ≡ under was
Stepped (went.Finished slip) was old new = (call : Call) × (reply : Reply) × Replied was old new call reply × (slip.value.reply ≡ encoding_of reply)
Stepped (went.Unsaid slip) was old new = (call : Call) × (reply : Reply) × Replied was old new call reply
Stepped (went.NoMemory slip) was old new = (call : Call) × GaveUp was old new call
Stepped (went.Spent slip) was old new = (call : Call) × GaveUp was old new call

-- whose line it is stays
pub record SameLine (old new : Line) : Type 0 where
  pub book : new.book.now ≡ old.book.now
  pub shards : new.shards ≡ old.shards
  pub before : new.before.value ≡ old.before.value
