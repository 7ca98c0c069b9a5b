-- How far a call is: its commands in turn, each round by round, with the replies of those that are over.
use Rattle.std.specs.Prelude.{◌≡◌, ℕ, suc, ◌+◌, ◌*◌, ◌<◌, Bool, true, false, Option, Some, None, List, [], ◌∷◌, ◌++◌, length}
use Rattle.df_model.specs.Spared.{all_of}
use Rattle.df_model.specs.declared.command.Command.{Command}
use Rattle.df_model.specs.declared.command.Call.{Call}
use Rattle.df_model.specs.declared.command.Call.TheVariants.{Single, Exec}
use Rattle.df_model.specs.declared.reply.Reply.{Reply}
use Rattle.df_model.specs.declared.reply.Reply.TheVariants.{Array}
use Rattle.df_footprints.specs.Footprints.{commands_of}
use Rattle.df_log.specs.Acts.{Act, Told}
use Rattle.df_log.specs.declared.entry.Entry.{Entry}
use Rattle.df_core.specs.Courses.{Cuts, course_of}
use Rattle.df_core.specs.Steps.{Step, step_of, steps_of}
use Rattle.df_core.specs.Due.{due}
use Rattle.df_core.specs.Done.{Done, DoneAll, Gives, IsSaveReply, want_of_memory}
use Rattle.df_book.specs.Passes.{Caller}
use Rattle.df_book.specs.declared.draw.Draw.{Draw}
use Rattle.df_end.specs.Calls.{CallLeft}
use Rattle.df_end.specs.Rounds.{Hopped, Round}
use Rattle.df_rounds.specs.Standing.{Standing, Fresh, Asked, asks, hop_of, goes_on, then_told, step_told, steps_so_far, AllMayBeTold, IsReached}
use Rattle.df_rounds.specs.Replies.{reply_of, may_stop}

-- Command number `at`, from 0, is the first of `left`, and stands so. Those before it are over, with these replies.
pub record Progress : Type 0 where
  pub at : ℕ
  pub replies : List Reply
  pub left : List Command
  pub standing : Standing

-- at first
abbrev pub progress_of : Call → Progress
progress_of call = record { at = 0; replies = []; left = commands_of call; standing = Fresh }

-- ---- the next round

abbrev pub asks_in : ℕ → List Command → Standing → Asked
asks_in shards [] standing = λ s. None
asks_in shards (command ∷ commands) standing = asks shards command (course_of shards command) standing

abbrev pub hop_in : ℕ → List Command → Standing → ℕ
hop_in shards [] standing = 0
hop_in shards (command ∷ commands) standing = hop_of shards command (course_of shards command) standing

-- what each shard is asked next
abbrev pub asks_next : ℕ → Progress → Asked
asks_next shards progress = asks_in shards progress.left progress.standing

-- as which hop of the call
abbrev pub hop_next : ℕ → Progress → ℕ
hop_next shards progress = 4 * progress.at + hop_in shards progress.left progress.standing

-- some shard is asked
abbrev pub GoesOn : ℕ → List Command → Standing → Type 0
GoesOn shards [] standing = ⊥
GoesOn shards (command ∷ commands) standing = goes_on shards command (course_of shards command) standing ≡ true

-- once each shard told this
abbrev pub after_round : (ℕ → Told) → Progress → Progress
after_round told progress = record progress { standing = then_told told progress.standing }

-- once its command is over, with this reply, and these are left
abbrev pub after_command : Reply → List Command → Progress → Progress
after_command reply commands progress =
    record { at = suc progress.at; replies = progress.replies ++ reply ∷ []; left = commands; standing = Fresh }

-- ---- what stands in the logs

abbrev pub steps_in : ℕ → ℕ → List Command → Standing → ℕ → List Step
steps_in shards i [] standing s = []
steps_in shards i (command ∷ commands) standing s = steps_so_far shards i command (course_of shards command) standing s

abbrev pub IsReachedIn : ℕ → List Command → Standing → Type 0
IsReachedIn shards [] standing = standing ≡ Fresh
IsReachedIn shards (command ∷ commands) standing = IsReached shards command (course_of shards command) standing

-- The call is so far where these steps were taken for it: those of the commands that are over, and behind them those of
-- the next command.
pub record Stands (shards : ℕ) (call : Call) (progress : Progress) (steps : ℕ → List Step) : Type 0 where
  pub earlier : List Command
  pub commands : commands_of call ≡ earlier ++ progress.left
  pub at : length earlier ≡ progress.at
  pub before : ℕ → List Step
  pub marks : List Bool
  pub done : DoneAll shards 0 earlier before marks progress.replies
  pub reached : IsReachedIn shards progress.left progress.standing
  pub split : (s : ℕ) → steps s ≡ before s ++ steps_in shards progress.at progress.left progress.standing s

-- ---- the answers of a round

-- the entry that answers what a shard was asked as this hop; none where it wasn't asked
abbrev pub Answers : ℕ → Option Act → Told → Option Entry → Type 0
Answers hop None told entry = entry ≡ None
Answers hop (Some act) told entry = (e : Entry) × (entry ≡ Some e) × (step_of e ≡ record { hop = hop; act = act; told = told })

-- ---- the reply

-- of a call whose commands gave these
abbrev pub reply_to : Call → List Reply → Reply
reply_to (Single command) [] = want_of_memory
reply_to (Single command) (reply ∷ replies) = reply
reply_to (Exec commands) replies = Array (all_of replies)

-- ---- the laws

-- a call that has no step yet stands at its first command
abbrev pub CallsStart : Type 0
CallsStart = (shards : ℕ) (call : Call) (steps : ℕ → List Step) → ((s : ℕ) → steps s ≡ []) → Stands shards call (progress_of call) steps

-- what a call asks next is due on that shard, by all that was told it
abbrev pub NextIsDue : Type 0
NextIsDue =
    (shards : ℕ) (call : Call) (progress : Progress) (steps : ℕ → List Step) (s : ℕ) (act : Act) → 0 < shards →
    Stands shards call progress steps → asks_next shards progress s ≡ Some act → due shards call steps s (hop_next shards progress) ≡ Some act

-- the answers of a round bring the call one round further
abbrev pub RoundsGoOn : Type 0
RoundsGoOn =
    (shards : ℕ) (call : Call) (progress : Progress) (steps : ℕ → List Step) (told : ℕ → Told) → Stands shards call progress steps →
    GoesOn shards progress.left progress.standing → AllMayBeTold shards (asks_next shards progress) told →
    Stands shards call (after_round told progress) (λ s. steps s ++ step_told (hop_next shards progress) (asks_next shards progress s) (told s))

-- and with them what its caller has seen: the entries of the rounds so far, and no other
abbrev pub SeenGoesOn : Type 0
SeenGoesOn =
    (shards n : ℕ) (v u : Caller) (es : ℕ → List Entry) (round : ℕ → Option Entry) (call : Call) (progress : Progress) (told : ℕ → Told) →
    Hopped shards v n es → Round shards n v u round → Stands shards call progress (λ s. steps_of (es s)) →
    GoesOn shards progress.left progress.standing → AllMayBeTold shards (asks_next shards progress) told →
    ((s : ℕ) → Answers (hop_next shards progress) (asks_next shards progress s) (told s) (round s)) →
    (fs : ℕ → List Entry) × Hopped shards u n fs × Stands shards call (after_round told progress) (λ s. steps_of (fs s))

-- where a command is done the next one may begin
abbrev pub CommandsGoOn : Type 0
CommandsGoOn =
    (shards : ℕ) (call : Call) (progress : Progress) (steps : ℕ → List Step) (command : Command) (commands : List Command) (kept : Bool)
    (reply : Reply) → Stands shards call progress steps → progress.left ≡ command ∷ commands →
    Done shards progress.at command (steps_so_far shards progress.at command (course_of shards command) progress.standing) kept reply →
    Stands shards call (after_command reply commands progress) steps

-- with the reply that is computed, where it asks for nothing more
abbrev pub OverGoesOn : Type 0
OverGoesOn =
    (shards : ℕ) (call : Call) (progress : Progress) (steps : ℕ → List Step) (command : Command) (commands : List Command) (saved : Reply) →
    0 < shards → Stands shards call progress steps → progress.left ≡ command ∷ commands →
    goes_on shards command (course_of shards command) progress.standing ≡ false → (course_of shards command ≡ Cuts → IsSaveReply saved) →
    Stands shards call (after_command (reply_of shards command (course_of shards command) saved progress.standing) commands progress) steps

-- and with want of memory, where it may stop for it
abbrev pub StopGoesOn : Type 0
StopGoesOn =
    (shards : ℕ) (call : Call) (progress : Progress) (steps : ℕ → List Step) (command : Command) (commands : List Command) → 0 < shards →
    Stands shards call progress steps → progress.left ≡ command ∷ commands →
    may_stop (course_of shards command) progress.standing ≡ true →
    Stands shards call (after_command want_of_memory commands progress) steps

-- where none is left the call gives its reply
abbrev pub CallsGive : Type 0
CallsGive =
    (shards : ℕ) (call : Call) (progress : Progress) (steps : ℕ → List Step) → Stands shards call progress steps → progress.left ≡ [] →
    Gives shards call steps (reply_to call progress.replies)

-- and leaves what a call leaves that has ended: its caller saw the entries of its rounds, and no other
abbrev pub EndsLeave : Type 0
EndsLeave =
    (shards : ℕ) (u : Caller) (d : Draw) (es : ℕ → List Entry) (progress : Progress) → Hopped shards u d.number es →
    Stands shards d.call progress (λ s. steps_of (es s)) → progress.left ≡ [] →
    CallLeft shards u record { draw = d; reply = Some (reply_to d.call progress.replies) }
