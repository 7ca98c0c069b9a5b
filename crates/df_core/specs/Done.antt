-- A command, and a call, whose hops all ran: what stands in the logs, which commands were kept, and the reply.
use Rattle.std.specs.Prelude.{◌≡◌, ◌≢◌, ◌⊎◌, ℕ, zero, suc, ◌+◌, ◌*◌, ◌==◌, ◌<◌, ◌≤◌, ◌++◌, Bool, true, false, ◌&&◌, ◌||◌, List, [], ◌∷◌, map}
use Rattle.std.specs.List.{filter}
use Rattle.df_model.specs.Values.{Bytes, Members}
use Rattle.df_model.specs.Members as members
use Rattle.df_model.specs.Keyspace.{Keyspace, held, no_keys}
use Rattle.df_model.specs.Patterns.{is_match}
use Rattle.df_model.specs.Meaning.{meaning}
use Rattle.df_model.specs.Outcomes.{ok, count, bulks}
use Rattle.df_model.specs.Spared.{all_of}
use Rattle.df_model.specs.declared.command.WholeOp.TheVariants as wholes
use Rattle.df_model.specs.declared.command.Command.{Command}
use Rattle.df_model.specs.declared.command.Command.TheVariants.{Whole}
use Rattle.df_model.specs.declared.command.Call.{Call}
use Rattle.df_model.specs.declared.command.Call.TheVariants.{Single, Exec}
use Rattle.df_model.specs.declared.reply.ErrorText.TheVariants as errors
use Rattle.df_model.specs.declared.reply.Reply.{Reply}
use Rattle.df_model.specs.declared.reply.Reply.TheVariants.{Error, Array}
use Rattle.df_log.specs.Acts.{Act, Run, Read, Stage, Apply, Unstage, Begin, Walk, Count, Clear, Told, Ran, Values, Staged, Applied, Number, Cut, NoMemory}
use Rattle.df_log.specs.Acts as acts
use Rattle.df_log.specs.Parts.{did}
use Rattle.df_footprints.specs.Footprints.{commands_of}
use Rattle.df_core.specs.Courses.{Nowhere, Alone, Spread, Clears, course_of, keys_on, changes_on}
use Rattle.df_core.specs.Steps.{Step}
use Rattle.df_core.specs.Due.{some, second_wanted}

abbrev pub want_of_memory : Reply
want_of_memory = Error errors.Memory

-- the first step of command i, and those that may follow
abbrev pub first_step : ℕ → Act → Told → Step
first_step i act told = record { hop = 4 * i; act = act; told = told }

abbrev pub stage_step : ℕ → Act → Told → Step
stage_step i act told = record { hop = 4 * i + 1; act = act; told = told }

abbrev pub apply_step : ℕ → Act → Step
apply_step i act = record { hop = 4 * i + 2; act = act; told = Applied }

abbrev pub unstage_step : ℕ → Step
unstage_step i = record { hop = 4 * i + 3; act = Unstage; told = Applied }

-- ---- a command with keys on several shards, on one of them, where its keys hold this on all shards together

abbrev pub read_step : ℕ → ℕ → ℕ → Command → Keyspace → Step
read_step shards i s command K = first_step i (Read (keys_on shards s command)) (Values (map (held K) (keys_on shards s command)))

-- no key stands there; nothing changes there; or what changes is staged and then applied
pub data Shows (shards i s : ℕ) (command : Command) (K : Keyspace) : List Step → Type 0 where
  unnamed : keys_on shards s command ≡ [] → Shows shards i s command K []
  looked : keys_on shards s command ≢ [] → changes_on shards s command K ≡ [] → Shows shards i s command K (read_step shards i s command K ∷ [])
  applied : changes_on shards s command K ≢ []
      → Shows shards i s command K (read_step shards i s command K ∷ stage_step i (Stage (changes_on shards s command K)) Staged ∷ apply_step i Apply ∷ [])

-- no key stands there; or it was read, with any answer
pub data Stops (shards i s : ℕ) (command : Command) : List Step → Type 0 where
  unnamed : keys_on shards s command ≡ [] → Stops shards i s command []
  read : keys_on shards s command ≢ [] → (told : Told) → Stops shards i s command (first_step i (Read (keys_on shards s command)) told ∷ [])

-- no key stands there; nothing changes there; or what changes was to be staged, and was taken back
pub data Undoes (shards i s : ℕ) (command : Command) (K : Keyspace) : List Step → Type 0 where
  unnamed : keys_on shards s command ≡ [] → Undoes shards i s command K []
  looked : keys_on shards s command ≢ [] → changes_on shards s command K ≡ [] → Undoes shards i s command K (read_step shards i s command K ∷ [])
  undone : changes_on shards s command K ≢ [] → (told : Told)
      → Undoes shards i s command K (read_step shards i s command K ∷ stage_step i (Stage (changes_on shards s command K)) told ∷ unstage_step i ∷ [])

-- ---- a command of the whole keyspace

-- each shard has these steps, and there is no other
pub record OnEach (shards : ℕ) (steps : ℕ → List Step) (these : ℕ → List Step) : Type 0 where
  pub within : (s : ℕ) → s < shards → steps s ≡ these s
  pub beyond : (s : ℕ) → shards ≤ s → steps s ≡ []

-- one of the first n answers is want of memory
abbrev pub Wanted : ℕ → (ℕ → Told) → Type 0
Wanted shards told = (s : ℕ) × (s < shards) × (told s ≡ NoMemory)

-- the names that the first n shards told, together
abbrev pub names_of : (ℕ → List Bytes) → ℕ → Members
names_of names zero = members.empty
names_of names (suc t) = members.with_all (names t) (names_of names t)

abbrev pub sum_of : (ℕ → ℕ) → ℕ → ℕ
sum_of numbers zero = 0
sum_of numbers (suc t) = numbers t + sum_of numbers t

-- what a save may be answered
abbrev pub IsSaveReply : Reply → Type 0
IsSaveReply reply = (reply ≡ ok) ⊎ (reply ≡ Error errors.SaveFailed) ⊎ (reply ≡ Error errors.Memory)

-- ---- all hops of command i, by its own steps on each shard: whether it is kept, and its reply
pub data Done (shards i : ℕ) (command : Command) (steps : ℕ → List Step) : Bool → Reply → Type 0 where
  nowhere : course_of shards command ≡ Nowhere → ((s : ℕ) → steps s ≡ []) → Done shards i command steps false (meaning command no_keys).0
  nowhere_wanted : course_of shards command ≡ Nowhere → ((s : ℕ) → steps s ≡ []) → Done shards i command steps false want_of_memory
  -- one hop on one shard
  ran : (s : ℕ) (reply : Reply) → course_of shards command ≡ Alone s → steps s ≡ first_step i (Run command) (Ran reply) ∷ []
      → ((t : ℕ) → t ≢ s → steps t ≡ []) → Done shards i command steps true reply
  run_wanted : (s : ℕ) → course_of shards command ≡ Alone s → steps s ≡ first_step i (Run command) NoMemory ∷ []
      → ((t : ℕ) → t ≢ s → steps t ≡ []) → Done shards i command steps false want_of_memory
  -- several shards: changed and applied; nothing to change; ended behind its reads; staged and taken back
  changed : (K : Keyspace) → course_of shards command ≡ Spread → ((s : ℕ) → Shows shards i s command K (steps s))
      → ((s : ℕ) × (s < shards) × (changes_on shards s command K ≢ [])) → Done shards i command steps true (meaning command K).0
  looked : (K : Keyspace) → course_of shards command ≡ Spread → ((s : ℕ) → Shows shards i s command K (steps s))
      → ((s : ℕ) → changes_on shards s command K ≡ []) → Done shards i command steps false (meaning command K).0
  stopped : course_of shards command ≡ Spread → ((s : ℕ) → Stops shards i s command (steps s)) → Done shards i command steps false want_of_memory
  undone : (K : Keyspace) → course_of shards command ≡ Spread → ((s : ℕ) → Undoes shards i s command K (steps s))
      → ((s : ℕ) × (s < shards) × (second_wanted (steps s) ≡ true)) → Done shards i command steps false want_of_memory
  -- one hop on each shard
  names : (pattern : Bytes) (names : ℕ → List Bytes) → command ≡ Whole (wholes.Keys pattern)
      → OnEach shards steps (λ s. first_step i Walk (acts.Names (names s)) ∷ [])
      → Done shards i command steps false (bulks (filter (is_match pattern) (members.items (names_of names shards))))
  counts : (numbers : ℕ → ℕ) → command ≡ Whole wholes.Dbsize → OnEach shards steps (λ s. first_step i Count (Number (numbers s)) ∷ [])
      → Done shards i command steps false (count (sum_of numbers shards))
  -- to put the names together takes memory too, so it may be wanting after each shard told its own
  names_wanted : (pattern : Bytes) (told : ℕ → Told) → command ≡ Whole (wholes.Keys pattern) → OnEach shards steps (λ s. first_step i Walk (told s) ∷ [])
      → Done shards i command steps false want_of_memory
  counts_wanted : (told : ℕ → Told) → command ≡ Whole wholes.Dbsize → OnEach shards steps (λ s. first_step i Count (told s) ∷ [])
      → Wanted shards told → Done shards i command steps false want_of_memory
  cuts : (pairs : ℕ → Keyspace) (reply : Reply) → command ≡ Whole wholes.Save → OnEach shards steps (λ s. first_step i Begin (Cut (pairs s)) ∷ [])
      → IsSaveReply reply → Done shards i command steps false reply
  -- every key of several shards goes; or that was to be staged, and was taken back
  cleared : course_of shards command ≡ Clears → OnEach shards steps (λ s. stage_step i (Stage []) Staged ∷ apply_step i Clear ∷ [])
      → Done shards i command steps true ok
  kept_all : (told : ℕ → Told) → course_of shards command ≡ Clears → OnEach shards steps (λ s. stage_step i (Stage []) (told s) ∷ unstage_step i ∷ [])
      → Wanted shards told → Done shards i command steps false want_of_memory

-- the steps of a list of commands, from command i on: those of the first, and behind them the others'
abbrev pub DoneAll : ℕ → ℕ → List Command → (ℕ → List Step) → List Bool → List Reply → Type 0
DoneAll shards i [] steps [] [] = (s : ℕ) → steps s ≡ []
DoneAll shards i [] steps (kept ∷ marks) replies = ⊥
DoneAll shards i [] steps [] (reply ∷ replies) = ⊥
DoneAll shards i (command ∷ commands) steps [] replies = ⊥
DoneAll shards i (command ∷ commands) steps (kept ∷ marks) [] = ⊥
DoneAll shards i (command ∷ commands) steps (kept ∷ marks) (reply ∷ replies) =
    (own : ℕ → List Step) × (rest : ℕ → List Step) × ((s : ℕ) → steps s ≡ own s ++ rest s)
    × Done shards i command own kept reply × DoneAll shards (suc i) commands rest marks replies

-- all hops of a call ran on all its shards, these are its steps there, and this is its reply
abbrev pub Gives : ℕ → Call → (ℕ → List Step) → Reply → Type 0
Gives shards (Single command) steps reply = (kept : Bool) × DoneAll shards 0 (command ∷ []) steps (kept ∷ []) (reply ∷ [])
Gives shards (Exec commands) steps reply =
    (marks : List Bool) × (replies : List Reply) × (reply ≡ Array (all_of replies)) × DoneAll shards 0 commands.items steps marks replies

-- ---- which commands were kept, as the logs tell

abbrev pub is_run : Act → Bool
is_run (Run command) = true
is_run (Read keys) = false
is_run (Stage changes) = false
is_run Apply = false
is_run Unstage = false
is_run Begin = false
is_run Walk = false
is_run Count = false
is_run Clear = false
is_run acts.Passed = false
is_run acts.Pull = false
is_run acts.Saved = false

-- command i ran and had memory, or its changes were applied
abbrev pub keeps : ℕ → Step → Bool
keeps i x = ((x.hop == 4 * i) && (is_run x.act && did x.told)) || (x.hop == 4 * i + 2)

abbrev pub keeps_in : ℕ → List Step → Bool
keeps_in i [] = false
keeps_in i (x ∷ steps) = keeps i x || keeps_in i steps

abbrev pub marks_from : ℕ → ℕ → List Command → (ℕ → List Step) → List Bool
marks_from shards i [] steps = []
marks_from shards i (command ∷ commands) steps = some (λ s. keeps_in i (steps s)) shards ∷ marks_from shards (suc i) commands steps

abbrev pub marks_of : ℕ → Call → (ℕ → List Step) → List Bool
marks_of shards call steps = marks_from shards 0 (commands_of call) steps
