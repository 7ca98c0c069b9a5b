-- What each step of a command does: its beginning, and how it goes on, by the kinds of commands.
use Rattle.std.specs.Prelude.{◌≡◌, ◌≢◌, ℕ, ◌<◌, Bool, true, false, not, cond, Option, Some, None, List, length}
use Rattle.std.specs.Option.{option_map}
use Rattle.std.specs.Global.{Box}
use Rattle.df_model.specs.Values.{Bytes}
use Rattle.df_model.specs.Replies.{encoding_of}
use Rattle.df_model.specs.declared.command.Command.{Command}
use Rattle.df_model.specs.declared.reply.Reply.{Reply}
use Rattle.df_model.specs.declared.keys.Keys.{Keys}
use Rattle.df_log.specs.Acts.{Act, Run, Changes}
use Rattle.df_core.specs.Due.{some, is_nil}
use Rattle.df_rounds.specs.Standing.{Standing, first_asked, first_hop, stage_of}
use Rattle.df_hops.specs.Parts.{act_of}
use Rattle.df_hops.specs.declared.answer.Outcome.{Outcome}
use Rattle.df_exchange.specs.Asks.{heard_of}
use Rattle.df_spread.specs.Spread.{modes_at}
use Rattle.df_keys.specs.Asked.{footprint_there}
use Rattle.df_turn.specs.Asked.{keys_named, read_named}
use Rattle.df_turn.specs.Courses.{course_in}
use Rattle.df_turn.specs.Heard.{ends_as}
use Rattle.df_turn.specs.Turns.{Asking, IsOver, part_for}
use Rattle.df_turn.specs.declared.course.Course.{Course}
use Rattle.df_turn.specs.declared.turn.Rest.{Rest}
use Rattle.df_turn.specs.declared.turn.Rest.TheVariants as rests
use Rattle.df_turn.specs.declared.turn.Turn.{Turn}
use Rattle.df_turn.specs.declared.turn.Next.{Next}
use Rattle.df_turn.specs.declared.turn.Next.TheVariants as nexts

-- ---- the beginning

-- each shard is asked what such a command asks first, whichever it is
pub record BeginsWhole (shards : ℕ) (course : Course) (kept : Rest) (turn : Turn) : Type 0 where
  pub rest : turn.rest ≡ kept
  pub hop : turn.hop ≡ first_hop (course_in course)
  pub count : length turn.parts.items ≡ shards
  pub parts : (command : Command) (s : ℕ) → s < shards → option_map act_of (part_for s turn.parts.items) ≡ first_asked shards command (course_in course) s

-- no shard is asked anything yet
pub record BeginsBare (shards : ℕ) (kept : Rest) (turn : Turn) : Type 0 where
  pub rest : turn.rest ≡ kept
  pub hop : turn.hop ≡ 0
  pub count : length turn.parts.items ≡ shards
  pub parts : (s : ℕ) → part_for s turn.parts.items ≡ None

-- the command went into the part of this shard
pub record RunsThere (shard : ℕ) (command : Command) (old new : Turn) : Type 0 where
  pub rest : new.rest ≡ rests.Running shard
  pub hop : new.hop ≡ old.hop
  pub count : length new.parts.items ≡ length old.parts.items
  pub here : option_map act_of (part_for shard new.parts.items) ≡ Some (Run command)
  pub others : (s : ℕ) → s ≢ shard → part_for s new.parts.items ≡ part_for s old.parts.items

-- the keys that are named on each shard are kept
abbrev pub KeepsNamed : List (Option (Box Keys)) → Rest → Type 0
KeepsNamed keys rests.Nowhere = ⊥
KeepsNamed keys (rests.Waiting s room) = ⊥
KeepsNamed keys (rests.Running s) = ⊥
KeepsNamed keys rests.Cutting = ⊥
KeepsNamed keys rests.Counting = ⊥
KeepsNamed keys rests.Walking = ⊥
KeepsNamed keys rests.Clearing = ⊥
KeepsNamed keys (rests.Cleared wanted) = ⊥
KeepsNamed keys (rests.Reading kept) = (length kept.items ≡ length keys) × ((s : ℕ) → modes_at kept.items s ≡ keys_named (footprint_there s keys))
KeepsNamed keys (rests.Staging reply) = ⊥
KeepsNamed keys (rests.Ending wanted reply) = ⊥

-- and are read there
pub record BeginsReading (keys : List (Option (Box Keys))) (turn : Turn) : Type 0 where
  pub keeps : KeepsNamed keys turn.rest
  pub hop : turn.hop ≡ 0
  pub count : length turn.parts.items ≡ length keys
  pub parts : (s : ℕ) → option_map act_of (part_for s turn.parts.items) ≡ read_named (footprint_there s keys)

-- ---- the end

-- it is over with this reply, or there was no memory to say it
abbrev pub Says : Next → Reply → Type 0
Says nexts.Asks reply = ⊥
Says (nexts.Over said) reply = said ≡ encoding_of reply
Says nexts.Unsaid reply = Unit {0}

-- who was heard is asked to show what it staged, by this act, or, where one found no memory, to take it back
pub record Ends (wanted : Bool) (act : Act) (heard : List (Option Outcome)) (turn : Turn) : Type 0 where
  pub hop : turn.hop ≡ cond wanted 3 2
  pub count : length turn.parts.items ≡ length heard
  pub parts : (s : ℕ) → option_map act_of (part_for s turn.parts.items) ≡ ends_as wanted act (heard_of s heard)

-- ---- a command that was run, with changes on shards

-- something changes on one of the first n shards
abbrev pub changes_any : ℕ → (ℕ → Changes) → Bool
changes_any n changed = some (λ s. not (is_nil (changed s))) n

abbrev pub IsStaging : Bytes → Rest → Type 0
IsStaging said rests.Nowhere = ⊥
IsStaging said (rests.Waiting s room) = ⊥
IsStaging said (rests.Running s) = ⊥
IsStaging said rests.Cutting = ⊥
IsStaging said rests.Counting = ⊥
IsStaging said rests.Walking = ⊥
IsStaging said rests.Clearing = ⊥
IsStaging said (rests.Cleared wanted) = ⊥
IsStaging said (rests.Reading kept) = ⊥
IsStaging said (rests.Staging reply) = reply ≡ said
IsStaging said (rests.Ending wanted reply) = ⊥

-- what changes is to be staged
pub record Stages (shards : ℕ) (changed : ℕ → Changes) (said : Bytes) (turn : Turn) : Type 0 where
  pub any : changes_any shards changed ≡ true
  pub rest : IsStaging said turn.rest
  pub hop : turn.hop ≡ 1
  pub count : length turn.parts.items ≡ shards
  pub parts : (s : ℕ) → s < shards → option_map act_of (part_for s turn.parts.items) ≡ stage_of (changed s)

-- it is over where nothing changes
abbrev pub RanTo : Next → ℕ → (ℕ → Changes) → Bytes → Turn → Type 0
RanTo nexts.Asks shards changed said turn = Stages shards changed said turn
RanTo (nexts.Over reply) shards changed said turn = (reply ≡ said) × (changes_any shards changed ≡ false)
RanTo nexts.Unsaid shards changed said turn = ⊥

-- ---- any step

-- how a command goes on, or that it is over
abbrev pub Goes : Next → ℕ → Command → Standing → Turn → Type 0
Goes nexts.Asks shards command standing turn = Asking shards 0 command standing turn
Goes (nexts.Over said) shards command standing turn = (reply : Reply) × IsOver shards command standing reply × (said ≡ encoding_of reply)
Goes nexts.Unsaid shards command standing turn = (reply : Reply) × IsOver shards command standing reply
