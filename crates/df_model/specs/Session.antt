-- The session machine: what a request gives in a state, and the state after it.
use Rattle.std.specs.Prelude.{ℕ, nat_lt, List, [], ◌∷◌, ◌++◌, length, Option, Some, None, Bool, true, false, codes, if◌then◌else◌}
use Rattle.df_model.specs.Values.{Bytes}
use Rattle.df_model.specs.Words.{Words, is_name}
use Rattle.df_model.specs.Spared.{all_of}
use Rattle.df_model.specs.Reads.{Reading, reads_linked, saves}
use Rattle.df_model.specs.Outcomes.{ok}
use Rattle.df_model.specs.Meaning.{plain}
use Rattle.df_model.specs.declared.command.Command.{Command}
use Rattle.df_model.specs.declared.command.Command.TheVariants.{Plain, One, Many, Whole, Wrong}
use Rattle.df_model.specs.declared.command.Call.{Call}
use Rattle.df_model.specs.declared.command.Call.TheVariants as calls
use Rattle.df_model.specs.declared.reply.ErrorText.{ErrorText}
use Rattle.df_model.specs.declared.reply.ErrorText.TheVariants as errors
use Rattle.df_model.specs.declared.reply.Reply.{Reply}
use Rattle.df_model.specs.declared.reply.Reply.TheVariants.{Simple, Error}

-- commands that a transaction may queue
abbrev pub MAX_QUEUED : ℕ
MAX_QUEUED = 1048576

-- nothing is queued; or these commands are, and the transaction is broken or not
pub data State : Type 0 where
  Ready : State
  Queueing : List Command → Bool → State

-- a request that speaks to the session itself
pub data Control : Type 0 where
  Multi : Control
  Exec : Control
  Discard : Control
  Quit : Control
  Shutdown : Control

-- a request, as the machine hears it; an unknown name and a wrong count of words come as their error
pub data Heard : Type 0 where
  Spoken : Command → Heard
  Controls : Control → Heard
  Refused : ErrorText → Heard

-- what a request gives: a reply at once, a call, or the session's end, with a last reply or with none
pub data Given : Type 0 where
  Replies : Reply → Given
  Calls : Call → Given
  Parts : Reply → Given
  Leaves : Given

abbrev pub Step : Type 0
Step = Given × State

-- ---- the words that speak to the session itself, a row each

-- how the words behind the name are heard, or None at a wrong count of words
abbrev pub ControlShape : Type 0
ControlShape = Words → Option Heard

pub record ControlRow : Type 0 where
  pub name : Bytes
  pub shape : ControlShape

-- the name alone
abbrev pub alone : Control → ControlShape
alone control [] = Some (Heard.Controls control)
alone control (word ∷ words) = None

-- whatever words stand behind it
abbrev pub quit : ControlShape
quit words = Some (Heard.Controls Control.Quit)

abbrev pub shutdown : ControlShape
shutdown [] = Some (Heard.Controls Control.Shutdown)
shutdown (word ∷ []) = Some (if is_name word (codes "nosave") then Heard.Controls Control.Shutdown else Heard.Spoken (Wrong errors.Syntax))
shutdown (a ∷ b ∷ more) = None

abbrev pub controls : List ControlRow
controls =
    record { name = codes "multi"; shape = alone Control.Multi } ∷
    record { name = codes "exec"; shape = alone Control.Exec } ∷
    record { name = codes "discard"; shape = alone Control.Discard } ∷
    record { name = codes "quit"; shape = quit } ∷
    record { name = codes "shutdown"; shape = shutdown } ∷
    []

-- ---- requests, as they are heard

abbrev pub heard_as : Reading → Heard
heard_as (Reading.Runs command) = Heard.Spoken command
heard_as Reading.Unknown = Heard.Refused errors.Unknown
heard_as (Reading.Arity name) = Heard.Refused (errors.Arity name)

abbrev pub heard_counted : Bytes → Option Heard → Heard
heard_counted name None = Heard.Refused (errors.Arity name)
heard_counted name (Some request) = request

-- by the first row with this name, or else as a command
abbrev pub heard_by : List ControlRow → Bytes → Words → Heard → Heard
heard_by [] name words other = other
heard_by (r ∷ rs) name words other = if is_name name r.name then heard_counted r.name (r.shape words) else heard_by rs name words other

abbrev pub heard : Words → Heard
heard [] = heard_as (reads_linked [])
heard (name ∷ words) = heard_by controls name words (heard_as (reads_linked (name ∷ words)))

-- a command outside a transaction: one that needs no keyspace is answered at once
abbrev pub given : Command → Given
given (Plain op) = Given.Replies (plain op)
given (One key op) = Given.Calls (calls.Single (One key op))
given (Many op) = Given.Calls (calls.Single (Many op))
given (Whole op) = Given.Calls (calls.Single (Whole op))
given (Wrong error) = Given.Replies (Error error)

abbrev pub ready_step : Heard → Step
ready_step (Heard.Spoken command) = (given command, State.Ready)
ready_step (Heard.Controls Control.Multi) = (Given.Replies ok, State.Queueing [] false)
ready_step (Heard.Controls Control.Exec) = (Given.Replies (Error errors.ExecAlone), State.Ready)
ready_step (Heard.Controls Control.Discard) = (Given.Replies (Error errors.DiscardAlone), State.Ready)
ready_step (Heard.Controls Control.Quit) = (Given.Parts ok, State.Ready)
ready_step (Heard.Controls Control.Shutdown) = (Given.Leaves, State.Ready)
ready_step (Heard.Refused error) = (Given.Replies (Error error), State.Ready)

abbrev pub queued : Reply
queued = Simple (codes "QUEUED")

abbrev pub append : List Command → Bool → Command → Step
append commands broken command =
    if nat_lt (length commands) MAX_QUEUED then (Given.Replies queued, State.Queueing (commands ++ command ∷ []) broken)
    else (Given.Replies (Error errors.TooQueued), State.Queueing commands true)

abbrev pub execute : List Command → Bool → Step
execute commands true = (Given.Replies (Error errors.Aborted), State.Ready)
execute commands false = (Given.Calls (calls.Exec (all_of commands)), State.Ready)

-- SAVE can't be part of a transaction
abbrev pub queueing_step : List Command → Bool → Heard → Step
queueing_step commands broken (Heard.Spoken command) = if saves command then (Given.Replies (Error errors.NotInside), State.Queueing commands true) else append commands broken command
queueing_step commands broken (Heard.Controls Control.Multi) = (Given.Replies (Error errors.Nested), State.Queueing commands broken)
queueing_step commands broken (Heard.Controls Control.Exec) = execute commands broken
queueing_step commands broken (Heard.Controls Control.Discard) = (Given.Replies ok, State.Ready)
queueing_step commands broken (Heard.Controls Control.Quit) = (Given.Parts ok, State.Queueing commands broken)
queueing_step commands broken (Heard.Controls Control.Shutdown) = (Given.Replies (Error errors.NotInside), State.Queueing commands true)
queueing_step commands broken (Heard.Refused error) = (Given.Replies (Error error), State.Queueing commands true)

abbrev pub machine : State → Heard → Step
machine State.Ready request = ready_step request
machine (State.Queueing commands broken) request = queueing_step commands broken request

abbrev pub session_step : State → Words → Step
session_step state words = machine state (heard words)

-- any request may be answered want of memory instead: a transaction is then broken
abbrev pub without_memory : State → State
without_memory State.Ready = State.Ready
without_memory (State.Queueing commands broken) = State.Queueing commands true
