-- What runs a connection's calls over shards, between two steps.
use Rattle.std.specs.Prelude.{◌≡◌, ℕ, ◌+◌, ◌<◌, Bool, true, false, Option, Some, None, List, []}
use Rattle.df_model.specs.Replies.{encoding_of}
use Rattle.df_model.specs.declared.reply.Reply.{Reply}
use Rattle.df_model.specs.declared.command.Call.{Call}
use Rattle.df_book.specs.Weights.{head_or}
use Rattle.df_book.specs.Passes.{BookName, Caller}
use Rattle.df_caller.specs.Calling.{Calling}
use Rattle.df_end.specs.Calls.{Row}
use Rattle.df_end.specs.Sessions.{SessionHolds}
use Rattle.df_hops.specs.Parts.{hash_for}
use Rattle.df_post.specs.Locals.{LocalView, posting_of}
use Rattle.df_caller.specs.declared.caller.Went.{Went}
use Rattle.df_caller.specs.declared.caller.Went.TheVariants as went
use Rattle.df_coord.specs.Asking.{RunsAlone}
use Rattle.df_coord.specs.Rows.{CallPassed, CallRan}
use Rattle.df_coord.specs.OneHops.{Going, see}
use Rattle.df_coord.specs.OneHops as one_hops
use Rattle.df_many.specs.Rooms.{AllIdle, IsRoom}
use Rattle.df_many.specs.Lines.{HasPost, Holds}
use Rattle.df_many.specs.Lines as lines
use Rattle.df_calls.specs.Left.{LeftBy, told_in}
use Rattle.df_calls.specs.declared.runs.Runs.{Runs}
use Rattle.df_calls.specs.declared.runs.Runs.TheVariants as runs
use Rattle.df_calls.specs.declared.calls.Calls.TheInside.{Inside}

-- ---- what is seen

pub record CallsView : Type 0 where
  pub book : BookName
  pub shards : ℕ
  -- the pass as it was when the last call ended, and the rows of all calls that ended
  pub rested : Caller
  pub rows : List Row
  -- the call under way
  pub under : Option Call
  -- how often a step had to wait
  pub stalls : ℕ
  -- the way to the shards
  pub post : LocalView

abbrev pub under_in : Runs → Option Call
under_in (runs.One hop room) = one_hops.under hop.state
under_in (runs.Many many) = lines.under many.line.state
under_in runs.Neither = None

abbrev pub post_in : BookName → Runs → LocalView
post_in z (runs.One hop room) = hop.post
post_in z (runs.Many many) = many.post
post_in z runs.Neither = record { book = z; ways = []; stalls = 0 }

abbrev pub view_of : Inside → CallsView
view_of c = record {
  book = c.book.now;
  shards = c.shards;
  rested = c.rested.value;
  rows = c.rows.rows;
  under = under_in c.runs;
  stalls = c.stalls;
  post = post_in c.book.now c.runs;
}

-- as a connection sees it: whoever serves its shards never ends a call, a step does
abbrev pub calling_of : CallsView → Calling
calling_of c = record { told = told_in c.rows; under = c.under; stalls = c.stalls; due = false }

-- the pass as it is, or any where there is none
abbrev pub pass_in : Caller → Runs → Caller
pass_in any (runs.One hop room) = hop.pass
pass_in any (runs.Many many) = many.line.pass
pass_in any runs.Neither = any

-- ---- what holds between two steps

-- no call is under way, and the pass is as the last one left it; or the call under way began with that
abbrev pub Rests : Option Call → Caller → Caller → Caller → Type 0
Rests None before pass rested = pass ≡ rested
Rests (Some call) before pass rested = before ≡ rested

-- its calls are run by either, for so many shards of this book
abbrev pub RunsHold : BookName → ℕ → Caller → Runs → Type 0
RunsHold z shards rested (runs.One hop room) =
    (hop.book.now ≡ z) × (hop.shards ≡ shards) × Going (see hop.book.now hop.shards hop.before.value hop.pass hop.state (posting_of hop.post))
    × IsRoom z shards room × AllIdle room.round × Rests (one_hops.under hop.state) hop.before.value hop.pass rested
RunsHold z shards rested (runs.Many many) =
    (many.line.book.now ≡ z) × (many.line.shards ≡ shards) × Holds many.line.state many.line × HasPost many.line (posting_of many.post)
    × Rests (lines.under many.line.state) many.line.before.value many.line.pass rested
RunsHold z shards rested runs.Neither = ⊥

abbrev pub IsOne : Runs → Type 0
IsOne (runs.One hop room) = Unit {0}
IsOne (runs.Many many) = ⊥
IsOne runs.Neither = ⊥

abbrev pub IsMany : Runs → Type 0
IsMany (runs.One hop room) = ⊥
IsMany (runs.Many many) = Unit {0}
IsMany runs.Neither = ⊥

pub record IsKept (c : Inside) : Type 0 where
  pub some : 0 < c.shards
  pub words : c.book.now.words ≡ c.shards + 2
  pub session : SessionHolds c.shards (head_or 0 c.rested.value.sessions) c.rested.value c.rows.rows
  pub runs : RunsHold c.book.now c.shards c.rested.value c.runs

-- ---- which of both runs a call

-- the shard and the hash of a call that is one hop there; or any call
abbrev pub IsAlone : ℕ → Call → Option (ℕ × ℕ) → Type 0
IsAlone shards call None = Unit {0}
IsAlone shards call (Some at) = RunsAlone shards at.0 call × (at.1 ≡ hash_for at.1 call)

-- ---- a step of whichever runs the call

abbrev pub is_pending : Went → Bool
is_pending went.Pending = true
is_pending (went.Finished slip) = false
is_pending (went.Unsaid slip) = false
is_pending (went.NoMemory slip) = false
is_pending (went.Spent slip) = false

-- the call came to its end, and its caller's pass is as it left it
pub record Over (z : BookName) (shards : ℕ) (rested : Caller) (old new : Runs) (call : Call) : Type 0 where
  pub was : under_in old ≡ Some call
  pub idle : under_in new ≡ None
  pub holds : RunsHold z shards (pass_in rested new) new

-- from the pass v before the call and its runs then
abbrev pub SteppedTo : Went → BookName → ℕ → Caller → Runs → Runs → Type 0
SteppedTo went.Pending z shards v old new = RunsHold z shards v new × (under_in new ≡ under_in old)
SteppedTo (went.Finished slip) z shards v old new =
    (call : Call) × (reply : Reply) × Over z shards v old new call × CallRan shards v (pass_in v new) call reply × (slip.value.reply ≡ encoding_of reply)
SteppedTo (went.Unsaid slip) z shards v old new =
    (call : Call) × (reply : Reply) × Over z shards v old new call × CallRan shards v (pass_in v new) call reply
SteppedTo (went.NoMemory slip) z shards v old new = (call : Call) × Over z shards v old new call × CallPassed shards v (pass_in v new) call
SteppedTo (went.Spent slip) z shards v old new = (call : Call) × Over z shards v old new call × CallPassed shards v (pass_in v new) call

-- the call that began with the pass v came to its end: these are the rows that it left
pub record Ended (w : Went) (z : BookName) (shards : ℕ) (v : Caller) (old new : Runs) : Type 0 where
  pub call : Call
  pub was : under_in old ≡ Some call
  pub more : List Row
  pub left : LeftBy w shards v (pass_in v new) call more
  pub idle : under_in new ≡ None
  pub holds : RunsHold z shards (pass_in v new) new

-- ---- what is handed out

-- all that a session keeps of its calls, once none is under way
pub record Handed (shards : ℕ) (was : CallsView) (pass : Caller) (rows : List Row) : Type 0 where
  pub pass_is : pass ≡ was.rested
  pub rows_is : rows ≡ was.rows
  pub session : SessionHolds shards (head_or 0 pass.sessions) pass rows
