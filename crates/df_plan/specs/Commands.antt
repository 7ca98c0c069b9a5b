-- Where a call is at the end of a command, and between two of them.
use Rattle.std.specs.Prelude.{◌≡◌, ℕ, suc, ◌+◌, ◌≤◌, Bool, true, false, List, ◌∷◌, ◌++◌, length, drop}
use Rattle.df_model.specs.Values.{Bytes}
use Rattle.df_model.specs.Replies.{encoding_of}
use Rattle.df_model.specs.Session.{MAX_QUEUED}
use Rattle.df_model.specs.declared.command.Command.{Command}
use Rattle.df_model.specs.declared.command.Call.{Call}
use Rattle.df_model.specs.declared.command.Call.TheVariants.{Single, Exec}
use Rattle.df_model.specs.declared.reply.Reply.{Reply}
use Rattle.df_footprints.specs.Footprints.{commands_of}
use Rattle.df_rounds.specs.Standing.{Fresh}
use Rattle.df_rounds.specs.Progress.{Progress}
use Rattle.df_caller.specs.declared.slip.Slip.{Slip}
use Rattle.df_turn.specs.Turns as turns
use Rattle.df_turn.specs.declared.turn.Next.{Next}
use Rattle.df_turn.specs.declared.turn.Next.TheVariants as nexts
use Rattle.df_plan.specs.declared.plan.Plan.{Plan}
use Rattle.df_plan.specs.Plans.{AllReady, AlikeCalls, Asks, IsSoFar, Moves}

-- ---- between two commands

-- no command is under way, and those that are left are ready
pub record Rests (shards : ℕ) (call : Call) (progress : Progress) (plan : Plan) (slip : Slip) : Type 0 where
  pub fresh : progress.standing ≡ Fresh
  pub at : plan.at ≡ progress.at
  pub few : progress.at + length progress.left ≤ MAX_QUEUED
  pub alike : AlikeCalls call slip.call
  pub holds : drop progress.at (commands_of slip.call) ≡ progress.left
  pub ready : AllReady shards progress.left (drop progress.at plan.turns.items)
  pub counted : length progress.replies + length progress.left ≡ length (commands_of call)
  pub so_far : plan.said ≡ true → IsSoFar call progress.replies slip.reply

-- ---- at the end of a command

-- this command is under way, and those behind it are ready
pub record Follow (shards : ℕ) (call : Call) (progress : Progress) (command : Command) (commands : List Command) (plan : Plan) (slip : Slip) : Type 0 where
  pub left : progress.left ≡ command ∷ commands
  pub at : plan.at ≡ progress.at
  pub few : progress.at + length progress.left ≤ MAX_QUEUED
  pub alike : AlikeCalls call slip.call
  pub holds : drop (suc progress.at) (commands_of slip.call) ≡ commands
  pub ready : AllReady shards commands (drop (suc progress.at) plan.turns.items)
  pub counted : length progress.replies + length progress.left ≡ length (commands_of call)
  pub so_far : plan.said ≡ true → IsSoFar call progress.replies slip.reply

-- the command under way is over with this reply, which isn't added yet
pub record IsDone (shards : ℕ) (call : Call) (progress : Progress) (reply : Reply) (plan : Plan) (slip : Slip) : Type 0 where
  pub command : Command
  pub commands : List Command
  pub follow : Follow shards call progress command commands plan slip
  pub over : turns.IsOver shards command progress.standing reply

-- what came of the command under way
abbrev pub CameTo : Next → ℕ → Call → Progress → Plan → Slip → Type 0
CameTo nexts.Asks shards call progress plan slip = Asks shards 0 call progress plan slip
CameTo (nexts.Over said) shards call progress plan slip = (reply : Reply) × IsDone shards call progress reply plan slip × (said ≡ encoding_of reply)
CameTo nexts.Unsaid shards call progress plan slip = (reply : Reply) × IsDone shards call progress reply plan slip

-- what is written once this is added of a command's reply
abbrev pub IsAdded : Call → Bytes → Bytes → Bytes → Type 0
IsAdded (Single command) before said after = after ≡ said
IsAdded (Exec commands) before said after = after ≡ before ++ said

-- it asks its shards, or the next command may begin
abbrev pub ComesBy : Bool → ℕ → Call → Progress → Plan → Slip → Type 0
ComesBy true shards call progress plan slip = Asks shards 0 call progress plan slip
ComesBy false shards call progress plan slip = (now : Progress) × Moves shards call progress now × Rests shards call now plan slip
