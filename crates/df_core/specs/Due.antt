-- The hops of a call that are due, by the steps that its shards have taken.
--
-- Command i of a call, from 0, has the hops 4i (run or read), 4i + 1 (stage), 4i + 2 (apply or clear) and 4i + 3 (unstage).
use Rattle.std.specs.Prelude.{◌≡◌, ℕ, zero, suc, ◌*◌, ◌/◌, ◌%◌, ◌==◌, Bool, true, false, ◌&&◌, ◌||◌, not, cond, nat_lt, length, Option, Some, None, List, [], ◌∷◌}
use Rattle.df_model.specs.Values.{Bytes, Value}
use Rattle.df_model.specs.Keyspace.{Keyspace, with_held, no_keys}
use Rattle.df_model.specs.declared.command.Command.{Command}
use Rattle.df_model.specs.declared.command.Call.{Call}
use Rattle.df_footprints.specs.Footprints.{commands_of}
use Rattle.df_order.specs.Lists.{only}
use Rattle.df_log.specs.Acts.{Act, Run, Read, Stage, Apply, Unstage, Begin, Walk, Count, Clear, Told, Ran, Values, Staged, Applied, Number, Cut, NoMemory, Refused, Handed, Replied}
use Rattle.df_log.specs.Acts as acts
use Rattle.df_log.specs.Parts.{did}
use Rattle.df_log.specs.declared.entry.Entry.{Entry}
use Rattle.df_core.specs.Courses.{Course, Nowhere, Alone, Spread, Counts, Cuts, Clears, course_of, keys_on, changes_on}
use Rattle.df_core.specs.Courses as courses
use Rattle.df_core.specs.Steps.{Step, steps_of}

-- ---- shards from 0 to below a number

abbrev pub every : (ℕ → Bool) → ℕ → Bool
every p zero = true
every p (suc t) = p t && every p t

abbrev pub some : (ℕ → Bool) → ℕ → Bool
some p zero = false
some p (suc t) = p t || some p t

-- ---- what was read

abbrev pub values_in : Told → List (Option Value)
values_in (Ran reply) = []
values_in (Values values) = values
values_in Staged = []
values_in Applied = []
values_in (acts.Names names) = []
values_in (Number n) = []
values_in (Cut pairs) = []
values_in NoMemory = []
values_in (Refused limit) = []
values_in (Handed bytes) = []
values_in (Replied reply) = []

-- what the first step was told of the keys that it read
abbrev pub values_of : List Step → List (Option Value)
values_of [] = []
values_of (x ∷ steps) = values_in x.told

abbrev pub with_values : List Bytes → List (Option Value) → Keyspace → Keyspace
with_values [] values K = K
with_values (key ∷ keys) [] K = K
with_values (key ∷ keys) (v ∷ values) K = with_held (with_values keys values K) key v

-- all that the first t shards told of the command's keys
abbrev pub read_on : ℕ → Command → (ℕ → List Step) → ℕ → Keyspace
read_on shards command steps zero = no_keys
read_on shards command steps (suc t) = with_values (keys_on shards t command) (values_of (steps t)) (read_on shards command steps t)

abbrev pub values_read : ℕ → Command → (ℕ → List Step) → Keyspace
values_read shards command steps = read_on shards command steps shards

-- ---- how far a command is, by its own steps on each shard

abbrev pub is_nil : {X : Type 0} → List X → Bool
is_nil [] = true
is_nil (x ∷ xs) = false

-- the first step, or the second, found no memory
abbrev pub first_wanted : List Step → Bool
first_wanted [] = false
first_wanted (x ∷ steps) = not (did x.told)

abbrev pub second_wanted : List Step → Bool
second_wanted [] = false
second_wanted (x ∷ steps) = first_wanted steps

-- each shard with a key of the command has read
abbrev pub all_read : ℕ → Command → (ℕ → List Step) → Bool
all_read shards command steps = every (λ t. is_nil (keys_on shards t command) || not (is_nil (steps t))) shards

-- each shard on which something changes has staged, or has found no memory for it
abbrev pub all_staged : ℕ → Command → (ℕ → List Step) → Bool
all_staged shards command steps =
    every (λ t. is_nil (changes_on shards t command (values_read shards command steps)) || nat_lt 1 (length (steps t))) shards

-- ---- what is due

abbrev pub first_due : Act → List Step → ℕ → Option Act
first_due act steps zero = cond (is_nil steps) (Some act) None
first_due act steps (suc j) = None

-- on one shard, by the changes there; the flags: all have read and found memory, all have staged, one found no memory to stage
abbrev pub spread_due : List Bytes → List (Bytes × Option Value) → Bool → Bool → Bool → List Step → ℕ → Option Act
spread_due keys changes read staged wanted steps zero = cond (not (is_nil keys) && is_nil steps) (Some (Read keys)) None
spread_due keys changes read staged wanted steps (suc zero) = cond (read && (not (is_nil changes) && (length steps == 1))) (Some (Stage changes)) None
spread_due keys changes read staged wanted steps (suc (suc zero)) = cond (read && (staged && (not wanted && (not (is_nil changes) && (length steps == 2))))) (Some Apply) None
spread_due keys changes read staged wanted steps (suc (suc (suc j))) = cond (read && (staged && (wanted && (not (is_nil changes) && (length steps == 2))))) (Some Unstage) None

abbrev pub clear_due : Bool → Bool → List Step → ℕ → Option Act
clear_due staged wanted steps zero = None
clear_due staged wanted steps (suc zero) = cond (is_nil steps) (Some (Stage [])) None
clear_due staged wanted steps (suc (suc zero)) = cond (staged && (not wanted && (length steps == 1))) (Some Clear) None
clear_due staged wanted steps (suc (suc (suc j))) = cond (staged && (wanted && (length steps == 1))) (Some Unstage) None

-- what a command has to do on shard s as its hop j, if it is due
abbrev pub due_by : ℕ → Command → Course → (ℕ → List Step) → ℕ → ℕ → Option Act
due_by shards command Nowhere steps s j = None
due_by shards command (Alone t) steps s j = cond (t == s) (first_due (Run command) (steps s) j) None
due_by shards command Spread steps s j =
    spread_due (keys_on shards s command) (changes_on shards s command (values_read shards command steps))
    (all_read shards command steps && not (some (λ t. first_wanted (steps t)) shards)) (all_staged shards command steps)
    (some (λ t. second_wanted (steps t)) shards) (steps s) j
due_by shards command courses.Names steps s j = first_due Walk (steps s) j
due_by shards command Counts steps s j = first_due Count (steps s) j
due_by shards command Cuts steps s j = first_due Begin (steps s) j
due_by shards command Clears steps s j = clear_due (every (λ t. not (is_nil (steps t))) shards) (some (λ t. first_wanted (steps t)) shards) (steps s) j

-- The command needs no further hop. One that has read may end there, for want of memory for what follows.
abbrev pub may_end_by : ℕ → Command → Course → (ℕ → List Step) → Bool
may_end_by shards command Nowhere steps = true
may_end_by shards command (Alone t) steps = not (is_nil (steps t))
may_end_by shards command Spread steps =
    all_read shards command steps
    && (every (λ t. nat_lt (length (steps t)) 2) shards
    || every (λ t. is_nil (changes_on shards t command (values_read shards command steps)) || (length (steps t) == 3)) shards)
may_end_by shards command courses.Names steps = every (λ t. not (is_nil (steps t))) shards
may_end_by shards command Counts steps = every (λ t. not (is_nil (steps t))) shards
may_end_by shards command Cuts steps = every (λ t. not (is_nil (steps t))) shards
may_end_by shards command Clears steps = every (λ t. length (steps t) == 2) shards

-- ---- the commands of a call, one after the other

-- the steps of command i
abbrev pub of_command : ℕ → List Step → List Step
of_command i steps = only (λ x. x.hop / 4 == i) steps

abbrev pub all_below : ℕ → List Step → Bool
all_below hop [] = true
all_below hop (x ∷ steps) = nat_lt x.hop hop && all_below hop steps

-- no command behind command i has begun
abbrev pub none_behind : ℕ → List Step → Bool
none_behind i steps = all_below (4 * suc i) steps

abbrev pub due_from : ℕ → ℕ → List Command → (ℕ → List Step) → ℕ → ℕ → Option Act
due_from shards i [] steps s hop = None
due_from shards i (command ∷ commands) steps s hop =
    let own : ℕ → List Step = λ t. of_command i (steps t) in
    cond (hop / 4 == i) (due_by shards command (course_of shards command) own s (hop % 4))
    (cond (may_end_by shards command (course_of shards command) own) (due_from shards (suc i) commands steps s hop) None)

-- what the call has to do on shard s as this hop, if it is due there, by the steps that all shards have taken for it
abbrev pub due : ℕ → Call → (ℕ → List Step) → ℕ → ℕ → Option Act
due shards call steps s hop =
    cond (nat_lt s shards && (all_below hop (steps s) && every (λ t. none_behind (hop / 4) (steps t)) shards))
    (due_from shards 0 (commands_of call) steps s hop) None

-- the entry is of the call's next hop on shard s, after those entries that each shard has of it
abbrev pub IsNext : ℕ → Call → (ℕ → List Entry) → ℕ → Entry → Type 0
IsNext shards call es s e = due shards call (λ t. steps_of (es t)) s e.hop ≡ Some e.act
