-- The commands of a call one after the other: what each has ready, and how far the call is.
use Rattle.std.specs.Prelude.{◌≡◌, ℕ, suc, ◌+◌, ◌<◌, ◌≤◌, Bool, true, false, Option, List, [], ◌∷◌, ◌++◌, length, drop, codes, slice_get, Some}
use Rattle.std.specs.Fmt.{decimal}
use Rattle.std.specs.List.{flat_map}
use Rattle.df_model.specs.Values.{Bytes}
use Rattle.df_model.specs.Replies.{crlf, encoding_of}
use Rattle.df_model.specs.Session.{MAX_QUEUED}
use Rattle.df_model.specs.declared.command.Command.{Command}
use Rattle.df_model.specs.declared.command.Call.{Call}
use Rattle.df_model.specs.declared.command.Call.TheVariants.{Single, Exec}
use Rattle.df_model.specs.declared.reply.Reply.{Reply}
use Rattle.df_footprints.specs.Footprints.{commands_of}
use Rattle.df_log.specs.Acts.{Told}
use Rattle.df_core.specs.Steps.{Step}
use Rattle.df_rounds.specs.Standing.{AllMayBeTold}
use Rattle.df_rounds.specs.Progress.{Progress, Stands, asks_next, reply_to}
use Rattle.df_caller.specs.declared.slip.Slip.{Slip}
use Rattle.df_hops.specs.declared.answer.Outcome.{Outcome}
use Rattle.df_exchange.specs.Asks.{AllHeard}
use Rattle.df_turn.specs.Turns.{Asking, IsLent, Ready}
use Rattle.df_turn.specs.declared.turn.Turn.{Turn}
use Rattle.df_plan.specs.declared.plan.Plan.{Plan}

-- ---- the commands

-- the turn of each is still to come, and is ready
abbrev pub AllReady : ℕ → List Command → List Turn → Type 0
AllReady shards [] [] = Unit {0}
AllReady shards [] (turn ∷ turns) = ⊥
AllReady shards (command ∷ commands) [] = ⊥
AllReady shards (command ∷ commands) (turn ∷ turns) = Ready shards command turn × AllReady shards commands turns

-- both are single commands, or both an EXEC
abbrev pub AlikeCalls : Call → Call → Type 0
AlikeCalls (Single command) (Single other) = Unit {0}
AlikeCalls (Single command) (Exec others) = ⊥
AlikeCalls (Exec commands) (Single other) = ⊥
AlikeCalls (Exec commands) (Exec others) = Unit {0}

-- ---- the reply

-- what is written of the call's reply once its commands gave these
abbrev pub IsSoFar : Call → List Reply → Bytes → Type 0
IsSoFar (Single command) [] bytes = Unit {0}
IsSoFar (Single command) (reply ∷ replies) bytes = bytes ≡ encoding_of reply
IsSoFar (Exec commands) replies bytes = bytes ≡ codes "*" ++ decimal (length commands.items) ++ crlf ++ flat_map encoding_of replies

-- ---- before the call has its places

-- the turn of each command is ready, and nothing was answered yet
pub record Planned (shards : ℕ) (call : Call) (plan : Plan) (reply : Bytes) : Type 0 where
  pub few : length (commands_of call) ≤ MAX_QUEUED
  pub ready : AllReady shards (commands_of call) plan.turns.items
  pub at : plan.at ≡ 0
  pub said : plan.said ≡ true
  pub begun : IsSoFar call [] reply

-- ---- between two rounds

-- The call is so far, and asks its shards next: those from t on are still to be asked.
pub record Asks (shards t : ℕ) (call : Call) (progress : Progress) (plan : Plan) (slip : Slip) : Type 0 where
  -- the command under way, and those behind it
  pub command : Command
  pub commands : List Command
  pub left : progress.left ≡ command ∷ commands
  pub at : plan.at ≡ progress.at
  pub few : progress.at + length progress.left ≤ MAX_QUEUED
  -- the slip holds those behind it
  pub alike : AlikeCalls call slip.call
  pub holds : drop (suc progress.at) (commands_of slip.call) ≡ commands
  pub lent : IsLent shards progress.standing command plan.command
  pub turn : Turn
  pub there : slice_get plan.turns.items progress.at ≡ Some turn
  pub asking : Asking shards t command progress.standing turn
  pub ready : AllReady shards commands (drop (suc progress.at) plan.turns.items)
  -- what was answered so far
  pub counted : length progress.replies + length progress.left ≡ length (commands_of call)
  pub so_far : plan.said ≡ true → IsSoFar call progress.replies slip.reply

-- what the call asked of its shards was answered so, and each answer was heard
pub record IsAnswered (shards : ℕ) (call : Call) (progress : Progress) (told : ℕ → Told) (plan : Plan) (slip : Slip) (outcomes : List (Option Outcome)) : Type 0 where
  pub some : 0 < shards
  pub asks : Asks shards shards call progress plan slip
  pub may : AllMayBeTold shards (asks_next shards progress) told
  pub count : length outcomes ≡ shards
  pub heard : AllHeard (asks_next shards progress) told outcomes

-- ---- and what comes of it

-- whatever stands for the call by the one stands by the other
abbrev pub Moves : ℕ → Call → Progress → Progress → Type 0
Moves shards call progress now = (steps : ℕ → List Step) → Stands shards call progress steps → Stands shards call now steps

-- all its commands are over, and where there was memory for it the reply is written
pub record IsOver (call : Call) (now : Progress) (plan : Plan) (slip : Slip) : Type 0 where
  pub left : now.left ≡ []
  pub says : plan.said ≡ true → slip.reply ≡ encoding_of (reply_to call now.replies)

-- from this progress the call went on: it asks its shards, or is over
abbrev pub GoesTo : Bool → ℕ → Call → Progress → Plan → Slip → Type 0
GoesTo true shards call progress plan slip = (now : Progress) × Moves shards call progress now × Asks shards 0 call now plan slip
GoesTo false shards call progress plan slip = (now : Progress) × Moves shards call progress now × IsOver call now plan slip
