-- What is known of a caller, and what its calls do to that.
use Rattle.std.specs.Prelude.{◌≡◌, ℕ, ◌+◌, ◌-◌, ◌^◌, ◌≤◌, min, Bool, false, List, [], ◌∷◌, ◌++◌, Option, Some, None}
use Rattle.df_model.specs.Replies.{encoding_of}
use Rattle.df_model.specs.declared.command.Call.{Call}
use Rattle.df_model.specs.declared.reply.Reply.{Reply}
use Rattle.df_caller.specs.Told.{Told}
use Rattle.df_caller.specs.declared.caller.Went.{Went}
use Rattle.df_caller.specs.declared.caller.Went.TheVariants as went

-- the calls that were answered, in their order; the call under way; how often a step had to wait; and whether the next
-- step tells how the call under way came out
pub record Calling : Type 0 where
  pub told : List Told
  pub under : Option Call
  pub stalls : ℕ
  pub due : Bool

-- the count rose, or stands at its last value
abbrev pub Rose : ℕ → ℕ → Type 0
Rose before now = min (before + 1) (2 ^ 64 - 1) ≤ now

pub record HasBegun (old new : Calling) (call : Call) : Type 0 where
  pub told : new.told ≡ old.told
  pub under : new.under ≡ Some call
  pub stalls : old.stalls ≤ new.stalls

-- the call under way ran and was answered so
pub record Answers (old new : Calling) : Type 0 where
  pub call : Call
  pub was : old.under ≡ Some call
  pub reply : Reply
  pub told : new.told ≡ old.told ++ record { call = call; reply = reply } ∷ []
  pub under : new.under ≡ None
  pub stalls : old.stalls ≤ new.stalls

-- the call under way ended and never ran
pub record GivesUp (old new : Calling) : Type 0 where
  pub told : new.told ≡ old.told
  pub under : new.under ≡ None
  pub stalls : old.stalls ≤ new.stalls

-- nothing but the count of waits changed, and the call's outcome wasn't due
pub record Waits (old new : Calling) : Type 0 where
  pub told : new.told ≡ old.told
  pub under : new.under ≡ old.under
  pub rose : Rose old.stalls new.stalls
  pub early : old.due ≡ false

abbrev pub Steps : Went → Calling → Calling → Type 0
Steps went.Pending old new = Waits old new
Steps (went.Finished slip) old new = (a : Answers old new) × (slip.value.reply ≡ encoding_of a.reply)
Steps (went.Unsaid slip) old new = Answers old new
Steps (went.NoMemory slip) old new = GivesUp old new
Steps (went.Spent slip) old new = GivesUp old new
