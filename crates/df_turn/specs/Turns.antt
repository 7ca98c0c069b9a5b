-- A command over shards, before its turn and between its rounds: what is asked of each shard next, and what is kept of what
-- they told.
use Rattle.std.specs.Prelude.{◌≡◌, ℕ, ◌<◌, ◌≤◌, true, false, Option, None, List, length, get_or}
use Rattle.std.specs.Option.{option_map}
use Rattle.df_model.specs.Values.{Bytes}
use Rattle.df_model.specs.Meaning.{meaning}
use Rattle.df_model.specs.Replies.{encoding_of}
use Rattle.df_model.specs.declared.command.WholeOp.TheVariants as wholes
use Rattle.df_model.specs.declared.command.Command.{Command}
use Rattle.df_model.specs.declared.command.Command.TheVariants.{Whole}
use Rattle.df_model.specs.declared.reply.Reply.{Reply}
use Rattle.df_log.specs.Acts.{Told}
use Rattle.df_core.specs.Courses.{Course, Nowhere, Alone, Spread, Counts, Cuts, Clears, course_of}
use Rattle.df_core.specs.Courses as courses
use Rattle.df_core.specs.Done.{IsSaveReply, want_of_memory}
use Rattle.df_rounds.specs.Standing.{Standing, Fresh, Once, Twice, Thrice, Asked, asks, hop_of, goes_on, first_asked, first_hop, second_asked, round_wanted, values_told, AllMayBeTold}
use Rattle.df_rounds.specs.Replies.{reply_of, may_stop}
use Rattle.df_hops.specs.Parts.{act_of}
use Rattle.df_hops.specs.declared.message.Part.{Part}
use Rattle.df_hops.specs.declared.answer.Outcome.{Outcome}
use Rattle.df_exchange.specs.Asks.{AllHeard, heard_of}
use Rattle.df_spread.specs.Spread.{KeysStand}
use Rattle.df_turn.specs.declared.turn.Rest.{Rest}
use Rattle.df_turn.specs.declared.turn.Rest.TheVariants as rests
use Rattle.df_turn.specs.declared.turn.Turn.{Turn}
use Rattle.df_turn.specs.declared.turn.Next.{Next}
use Rattle.df_turn.specs.declared.turn.Next.TheVariants as nexts

-- ---- what is kept

-- before its turn comes
abbrev pub KeepsReady : ℕ → Command → Rest → Type 0
KeepsReady shards command rests.Nowhere = course_of shards command ≡ Nowhere
KeepsReady shards command (rests.Waiting s room) = course_of shards command ≡ Alone s
KeepsReady shards command (rests.Running s) = ⊥
KeepsReady shards command rests.Cutting = course_of shards command ≡ Cuts
KeepsReady shards command rests.Counting = command ≡ Whole wholes.Dbsize
KeepsReady shards command rests.Walking = (pattern : Bytes) × (command ≡ Whole (wholes.Keys pattern))
KeepsReady shards command rests.Clearing = course_of shards command ≡ Clears
KeepsReady shards command (rests.Cleared wanted) = ⊥
KeepsReady shards command (rests.Reading keys) = (course_of shards command ≡ Spread) × KeysStand shards command keys.items
KeepsReady shards command (rests.Staging reply) = ⊥
KeepsReady shards command (rests.Ending wanted reply) = ⊥

-- before the first round: of a command over several shards the keys on each
abbrev pub KeepsFresh : ℕ → Command → Rest → Type 0
KeepsFresh shards command rests.Nowhere = ⊥
KeepsFresh shards command (rests.Waiting s room) = ⊥
KeepsFresh shards command (rests.Running s) = course_of shards command ≡ Alone s
KeepsFresh shards command rests.Cutting = course_of shards command ≡ Cuts
KeepsFresh shards command rests.Counting = command ≡ Whole wholes.Dbsize
KeepsFresh shards command rests.Walking = (pattern : Bytes) × (command ≡ Whole (wholes.Keys pattern))
KeepsFresh shards command rests.Clearing = course_of shards command ≡ Clears
KeepsFresh shards command (rests.Cleared wanted) = ⊥
KeepsFresh shards command (rests.Reading keys) = (course_of shards command ≡ Spread) × KeysStand shards command keys.items
KeepsFresh shards command (rests.Staging reply) = ⊥
KeepsFresh shards command (rests.Ending wanted reply) = ⊥

-- behind it: whether a shard found no memory to clear, or the reply over what was read
abbrev pub KeepsOnce : ℕ → Command → (ℕ → Told) → Rest → Type 0
KeepsOnce shards command a rests.Nowhere = ⊥
KeepsOnce shards command a (rests.Waiting s room) = ⊥
KeepsOnce shards command a (rests.Running s) = ⊥
KeepsOnce shards command a rests.Cutting = ⊥
KeepsOnce shards command a rests.Counting = ⊥
KeepsOnce shards command a rests.Walking = ⊥
KeepsOnce shards command a rests.Clearing = ⊥
KeepsOnce shards command a (rests.Cleared wanted) =
    (course_of shards command ≡ Clears) × (wanted ≡ round_wanted shards (first_asked shards command Clears) a)
KeepsOnce shards command a (rests.Reading keys) = ⊥
KeepsOnce shards command a (rests.Staging reply) =
    (course_of shards command ≡ Spread) × (round_wanted shards (first_asked shards command Spread) a ≡ false)
    × (reply ≡ encoding_of (meaning command (values_told shards command a)).0)
KeepsOnce shards command a (rests.Ending wanted reply) = ⊥

-- behind the second: whether a shard found no memory to stage, and the reply
abbrev pub KeepsTwice : ℕ → Command → (ℕ → Told) → (ℕ → Told) → Rest → Type 0
KeepsTwice shards command a b rests.Nowhere = ⊥
KeepsTwice shards command a b (rests.Waiting s room) = ⊥
KeepsTwice shards command a b (rests.Running s) = ⊥
KeepsTwice shards command a b rests.Cutting = ⊥
KeepsTwice shards command a b rests.Counting = ⊥
KeepsTwice shards command a b rests.Walking = ⊥
KeepsTwice shards command a b rests.Clearing = ⊥
KeepsTwice shards command a b (rests.Cleared wanted) = ⊥
KeepsTwice shards command a b (rests.Reading keys) = ⊥
KeepsTwice shards command a b (rests.Staging reply) = ⊥
KeepsTwice shards command a b (rests.Ending wanted reply) =
    (course_of shards command ≡ Spread) × (wanted ≡ round_wanted shards (second_asked shards command Spread a) b)
    × (reply ≡ encoding_of (meaning command (values_told shards command a)).0)

abbrev pub Keeps : ℕ → Command → Standing → Rest → Type 0
Keeps shards command Fresh rest = KeepsFresh shards command rest
Keeps shards command (Once a) rest = KeepsOnce shards command a rest
Keeps shards command (Twice a b) rest = KeepsTwice shards command a b rest
Keeps shards command (Thrice a b c) rest = ⊥

-- ---- what is asked next

-- the part that is there for shard s
abbrev pub part_for : ℕ → List (Option Part) → Option Part
part_for s parts = get_or parts s None

-- what each shard is asked first, as far as it is made before the command's turn comes: but for the part of a command that
-- runs on one shard alone
abbrev pub asked_at_once : ℕ → Command → Course → Asked
asked_at_once shards command Nowhere = λ s. None
asked_at_once shards command (Alone t) = λ s. None
asked_at_once shards command Spread = asks shards command Spread Fresh
asked_at_once shards command courses.Names = asks shards command courses.Names Fresh
asked_at_once shards command Counts = asks shards command Counts Fresh
asked_at_once shards command Cuts = asks shards command Cuts Fresh
asked_at_once shards command Clears = asks shards command Clears Fresh

-- The command's turn is still to come. The memory of its first messages is there.
pub record Ready (shards : ℕ) (command : Command) (turn : Turn) : Type 0 where
  pub keeps : KeepsReady shards command turn.rest
  pub hop : turn.hop ≡ first_hop (course_of shards command)
  pub count : length turn.parts.items ≡ shards
  pub parts : (s : ℕ) → option_map act_of (part_for s turn.parts.items) ≡ asked_at_once shards command (course_of shards command) s

-- The command stands so and goes on: the parts of the shards from t on are there, those below were handed out.
pub record Asking (shards t : ℕ) (command : Command) (standing : Standing) (turn : Turn) : Type 0 where
  pub keeps : Keeps shards command standing turn.rest
  pub goes : goes_on shards command (course_of shards command) standing ≡ true
  pub hop : turn.hop ≡ hop_of shards command (course_of shards command) standing
  pub count : length turn.parts.items ≡ shards
  pub parts : (s : ℕ) → t ≤ s → option_map act_of (part_for s turn.parts.items) ≡ asks shards command (course_of shards command) standing s

-- ---- the answers of a round

-- a command that runs on one shard alone went there
abbrev pub IsLentBy : Course → Command → Command → Type 0
IsLentBy Nowhere command lent = lent ≡ command
IsLentBy (Alone s) command lent = Unit {0}
IsLentBy Spread command lent = lent ≡ command
IsLentBy courses.Names command lent = lent ≡ command
IsLentBy Counts command lent = lent ≡ command
IsLentBy Cuts command lent = lent ≡ command
IsLentBy Clears command lent = lent ≡ command

-- any other is lent as it is until its first round was answered; then nobody needs it
abbrev pub IsLent : ℕ → Standing → Command → Command → Type 0
IsLent shards Fresh command lent = IsLentBy (course_of shards command) command lent
IsLent shards (Once a) command lent = Unit {0}
IsLent shards (Twice a b) command lent = Unit {0}
IsLent shards (Thrice a b c) command lent = Unit {0}

-- the round that was asked was answered so, and each answer was heard
pub record IsAnswered (shards : ℕ) (command : Command) (standing : Standing) (told : ℕ → Told) (turn : Turn) (now : Command) (outcomes : List (Option Outcome)) : Type 0 where
  pub some : 0 < shards
  pub asking : Asking shards shards command standing turn
  pub lent : IsLent shards standing command now
  pub may : AllMayBeTold shards (asks shards command (course_of shards command) standing) told
  pub count : length outcomes ≡ shards
  pub heard : AllHeard (asks shards command (course_of shards command) standing) told outcomes

-- ---- and what comes of it

-- The command is over with this reply: nothing more is asked, or there was no memory for what follows where it may stop for
-- that. `saved` is what a SAVE is answered.
pub data IsOver (shards : ℕ) (command : Command) (standing : Standing) : Reply → Type 0 where
  over : (saved : Reply) → IsSaveReply saved → goes_on shards command (course_of shards command) standing ≡ false →
      IsOver shards command standing (reply_of shards command (course_of shards command) saved standing)
  stopped : may_stop (course_of shards command) standing ≡ true → IsOver shards command standing want_of_memory

-- nothing is heard any more
abbrev pub IsClear : ℕ → List (Option Outcome) → Type 0
IsClear shards outcomes = (length outcomes ≡ shards) × ((s : ℕ) → heard_of s outcomes ≡ None)

abbrev pub WentOn : Next → ℕ → Command → Standing → Turn → List (Option Outcome) → Type 0
WentOn nexts.Asks shards command standing turn outcomes = Asking shards 0 command standing turn × IsClear shards outcomes
WentOn (nexts.Over said) shards command standing turn outcomes =
    (reply : Reply) × IsOver shards command standing reply × (said ≡ encoding_of reply) × IsClear shards outcomes
WentOn nexts.Unsaid shards command standing turn outcomes = (reply : Reply) × IsOver shards command standing reply × IsClear shards outcomes

-- its turn came: it asks its shards, or is over at once; `lent` is what is left of it
abbrev pub Began : Next → ℕ → Command → Turn → Command → Type 0
Began nexts.Asks shards command turn lent = Asking shards 0 command Fresh turn × IsLent shards Fresh command lent
Began (nexts.Over said) shards command turn lent = (reply : Reply) × IsOver shards command Fresh reply × (said ≡ encoding_of reply)
Began nexts.Unsaid shards command turn lent = (reply : Reply) × IsOver shards command Fresh reply
