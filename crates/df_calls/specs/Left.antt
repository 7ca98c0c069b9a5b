-- What a call left, as rows, by what its last step came to.
use Rattle.std.specs.Prelude.{◌≡◌, ℕ, Option, Some, None, List, [], ◌∷◌, ◌++◌}
use Rattle.df_model.specs.Replies.{encoding_of}
use Rattle.df_model.specs.declared.command.Call.{Call}
use Rattle.df_model.specs.declared.reply.Reply.{Reply}
use Rattle.df_book.specs.Weights.{Each}
use Rattle.df_book.specs.Passes.{Caller}
use Rattle.df_caller.specs.Told.{Told}
use Rattle.df_caller.specs.declared.caller.Went.{Went}
use Rattle.df_caller.specs.declared.caller.Went.TheVariants as went
use Rattle.df_end.specs.Calls.{Row}
use Rattle.df_end.specs.Rounds.{CallWent}

-- ---- the calls that were answered, by the rows of all

abbrev pub with_told : Call → Option Reply → List Told → List Told
with_told call None told = told
with_told call (Some reply) told = record { call = call; reply = reply } ∷ told

abbrev pub told_in : List Row → List Told
told_in [] = []
told_in (r ∷ rows) = with_told r.draw.call r.reply (told_in rows)

-- ---- one call

-- each time that it was drawn it ran nothing
pub record LeftNothing (shards : ℕ) (v u : Caller) (call : Call) (more : List Row) : Type 0 where
  pub nothing : Each (λ (r : Row). r.reply ≡ None) more
  pub went : CallWent shards v u call more

-- and the last time it ran, and was replied this
pub record LeftReply (shards : ℕ) (v u : Caller) (call : Call) (reply : Reply) (more : List Row) : Type 0 where
  pub passed : List Row
  pub nothing : Each (λ (r : Row). r.reply ≡ None) passed
  pub last : Row
  pub said : last.reply ≡ Some reply
  pub more_is : more ≡ passed ++ last ∷ []
  pub went : CallWent shards v u call more

-- from the pass before it, v, to that behind it, u
abbrev pub LeftBy : Went → ℕ → Caller → Caller → Call → List Row → Type 0
LeftBy went.Pending shards v u call more = ⊥
LeftBy (went.Finished slip) shards v u call more =
    (reply : Reply) × LeftReply shards v u call reply more × (slip.value.reply ≡ encoding_of reply)
LeftBy (went.Unsaid slip) shards v u call more = (reply : Reply) × LeftReply shards v u call reply more
LeftBy (went.NoMemory slip) shards v u call more = LeftNothing shards v u call more
LeftBy (went.Spent slip) shards v u call more = LeftNothing shards v u call more
