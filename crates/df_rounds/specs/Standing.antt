-- Where one command of a call stands between two rounds of its hops: what its shards told so far, and what each of them
-- is asked next, as which hop.
use Rattle.std.specs.Prelude.{◌≡◌, ℕ, zero, suc, ◌+◌, ◌*◌, ◌<◌, ◌==◌, nat_lt, Bool, true, ◌&&◌, not, cond, is_some, Option, Some, None, List, [], ◌∷◌, ◌++◌}
use Rattle.df_model.specs.Values.{Bytes}
use Rattle.df_model.specs.Keyspace.{Keyspace, no_keys}
use Rattle.df_model.specs.declared.command.Command.{Command}
use Rattle.df_log.specs.Acts.{Changes, Act, Run, Read, Stage, Apply, Unstage, Begin, Walk, Count, Clear, Told, NoMemory}
use Rattle.df_log.specs.Parts.{did, IsTold}
use Rattle.df_core.specs.Courses.{Course, Nowhere, Alone, Spread, Counts, Cuts, Clears, course_of, keys_on, changes_on}
use Rattle.df_core.specs.Courses as courses
use Rattle.df_core.specs.Steps.{Step}
use Rattle.df_core.specs.Due.{some, values_in, with_values, due_by}

-- How many rounds were answered, and what each shard told in each. A shard that wasn't asked may stand with any answer.
pub data Standing : Type 0 where
  Fresh : Standing
  Once : (ℕ → Told) → Standing
  Twice : (ℕ → Told) → (ℕ → Told) → Standing
  Thrice : (ℕ → Told) → (ℕ → Told) → (ℕ → Told) → Standing

-- where it stands once each shard told this
abbrev pub then_told : (ℕ → Told) → Standing → Standing
then_told told Fresh = Once told
then_told told (Once a) = Twice a told
then_told told (Twice a b) = Thrice a b told
then_told told (Thrice a b c) = Thrice a b c

-- ---- what was read

-- all that the shards below t told of the command's keys
abbrev pub told_below : ℕ → Command → (ℕ → Told) → ℕ → Keyspace
told_below shards command told zero = no_keys
told_below shards command told (suc t) = with_values (keys_on shards t command) (values_in (told t)) (told_below shards command told t)

-- all that was read of them, as one keyspace
abbrev pub values_told : ℕ → Command → (ℕ → Told) → Keyspace
values_told shards command told = told_below shards command told shards

-- ---- the next round

-- what a shard is asked, or nothing
abbrev pub Asked : Type 0
Asked = ℕ → Option Act

-- one of the shards that were asked found no memory
abbrev pub round_wanted : ℕ → Asked → (ℕ → Told) → Bool
round_wanted shards asked told = some (λ t. is_some (asked t) && not (did (told t))) shards

-- the keys of the command there are read, if there are any
abbrev pub read_of : List Bytes → Option Act
read_of [] = None
read_of (key ∷ keys) = Some (Read (key ∷ keys))

-- what changes there is staged, if anything does
abbrev pub stage_of : Changes → Option Act
stage_of [] = None
stage_of (c ∷ changes) = Some (Stage (c ∷ changes))

-- who was asked to stage is asked to show it, or to forget it where one of them found no memory
abbrev pub end_of : Bool → Act → Option Act → Option Act
end_of wanted act None = None
end_of wanted act (Some stage) = Some (cond wanted Unstage act)

abbrev pub first_asked : ℕ → Command → Course → Asked
first_asked shards command Nowhere s = None
first_asked shards command (Alone t) s = cond (t == s) (Some (Run command)) None
first_asked shards command Spread s = read_of (keys_on shards s command)
first_asked shards command courses.Names s = Some Walk
first_asked shards command Counts s = Some Count
first_asked shards command Cuts s = Some Begin
first_asked shards command Clears s = Some (Stage [])

-- where a read found no memory, nothing more is asked
abbrev pub second_asked : ℕ → Command → Course → (ℕ → Told) → Asked
second_asked shards command Nowhere a s = None
second_asked shards command (Alone t) a s = None
second_asked shards command Spread a s =
    cond (round_wanted shards (first_asked shards command Spread) a) None (stage_of (changes_on shards s command (values_told shards command a)))
second_asked shards command courses.Names a s = None
second_asked shards command Counts a s = None
second_asked shards command Cuts a s = None
second_asked shards command Clears a s =
    end_of (round_wanted shards (first_asked shards command Clears) a) Clear (first_asked shards command Clears s)

abbrev pub third_asked : ℕ → Command → Course → (ℕ → Told) → (ℕ → Told) → Asked
third_asked shards command Nowhere a b s = None
third_asked shards command (Alone t) a b s = None
third_asked shards command Spread a b s =
    end_of (round_wanted shards (second_asked shards command Spread a) b) Apply (second_asked shards command Spread a s)
third_asked shards command courses.Names a b s = None
third_asked shards command Counts a b s = None
third_asked shards command Cuts a b s = None
third_asked shards command Clears a b s = None

-- which of a command's four hops it is: 0 runs or reads, 1 stages, 2 applies or clears, 3 unstages
abbrev pub first_hop : Course → ℕ
first_hop Nowhere = 0
first_hop (Alone t) = 0
first_hop Spread = 0
first_hop courses.Names = 0
first_hop Counts = 0
first_hop Cuts = 0
first_hop Clears = 1

abbrev pub second_hop : ℕ → Command → Course → (ℕ → Told) → ℕ
second_hop shards command Nowhere a = 1
second_hop shards command (Alone t) a = 1
second_hop shards command Spread a = 1
second_hop shards command courses.Names a = 1
second_hop shards command Counts a = 1
second_hop shards command Cuts a = 1
second_hop shards command Clears a = cond (round_wanted shards (first_asked shards command Clears) a) 3 2

abbrev pub third_hop : ℕ → Command → Course → (ℕ → Told) → (ℕ → Told) → ℕ
third_hop shards command course a b = cond (round_wanted shards (second_asked shards command course a) b) 3 2

-- only of shards that there are
abbrev pub on_shards : ℕ → Asked → Asked
on_shards shards asked s = cond (nat_lt s shards) (asked s) None

-- what each shard is asked next
abbrev pub asks : ℕ → Command → Course → Standing → Asked
asks shards command course Fresh = on_shards shards (first_asked shards command course)
asks shards command course (Once a) = on_shards shards (second_asked shards command course a)
asks shards command course (Twice a b) = on_shards shards (third_asked shards command course a b)
asks shards command course (Thrice a b c) = λ s. None

-- and as which hop
abbrev pub hop_of : ℕ → Command → Course → Standing → ℕ
hop_of shards command course Fresh = first_hop course
hop_of shards command course (Once a) = second_hop shards command course a
hop_of shards command course (Twice a b) = third_hop shards command course a b
hop_of shards command course (Thrice a b c) = 0

-- a shard is asked; else the command is over
abbrev pub goes_on : ℕ → Command → Course → Standing → Bool
goes_on shards command course standing = some (λ s. is_some (asks shards command course standing s)) shards

-- ---- what stands in the logs

-- the step that a shard took, if it was asked
abbrev pub step_told : ℕ → Option Act → Told → List Step
step_told hop None told = []
step_told hop (Some act) told = record { hop = hop; act = act; told = told } ∷ []

-- the steps of command i in each round, where its shards told this
abbrev pub first_steps : ℕ → ℕ → Command → Course → (ℕ → Told) → ℕ → List Step
first_steps shards i command course a s = step_told (4 * i + first_hop course) (asks shards command course Fresh s) (a s)

abbrev pub second_steps : ℕ → ℕ → Command → Course → (ℕ → Told) → (ℕ → Told) → ℕ → List Step
second_steps shards i command course a b s =
    step_told (4 * i + second_hop shards command course a) (asks shards command course (Once a) s) (b s)

abbrev pub third_steps : ℕ → ℕ → Command → Course → (ℕ → Told) → (ℕ → Told) → (ℕ → Told) → ℕ → List Step
third_steps shards i command course a b c s =
    step_told (4 * i + third_hop shards command course a b) (asks shards command course (Twice a b) s) (c s)

-- all of them
abbrev pub steps_so_far : ℕ → ℕ → Command → Course → Standing → ℕ → List Step
steps_so_far shards i command course Fresh s = []
steps_so_far shards i command course (Once a) s = first_steps shards i command course a s
steps_so_far shards i command course (Twice a b) s = first_steps shards i command course a s ++ second_steps shards i command course a b s
steps_so_far shards i command course (Thrice a b c) s =
    (first_steps shards i command course a s ++ second_steps shards i command course a b s) ++ third_steps shards i command course a b c s

-- ---- what was told answers what was asked

-- an answer that the act may have: what it gives on some keyspace, or want of memory where it takes some
abbrev pub MayBeTold : ℕ → ℕ → Option Act → Told → Type 0
MayBeTold shards s None told = Unit {0}
MayBeTold shards s (Some act) told = (K : Keyspace) × IsTold shards s K act told

abbrev pub AllMayBeTold : ℕ → Asked → (ℕ → Told) → Type 0
AllMayBeTold shards asked told = (s : ℕ) → MayBeTold shards s (asked s) (told s)

-- A command may come to stand so: in each round a shard was asked, and each that was asked told what it may.
abbrev pub IsReached : ℕ → Command → Course → Standing → Type 0
IsReached shards command course Fresh = Unit {0}
IsReached shards command course (Once a) = (goes_on shards command course Fresh ≡ true) × AllMayBeTold shards (asks shards command course Fresh) a
IsReached shards command course (Twice a b) =
    AllMayBeTold shards (asks shards command course Fresh) a
    × (goes_on shards command course (Once a) ≡ true) × AllMayBeTold shards (asks shards command course (Once a)) b
IsReached shards command course (Thrice a b c) =
    AllMayBeTold shards (asks shards command course Fresh) a
    × (goes_on shards command course (Once a) ≡ true) × AllMayBeTold shards (asks shards command course (Once a)) b
    × (goes_on shards command course (Twice a b) ≡ true) × AllMayBeTold shards (asks shards command course (Twice a b)) c

-- ---- a standing as lists, which a ghost field can hold

-- the answers of a round, one for each shard
abbrev pub by_shard : List Told → ℕ → Told
by_shard [] s = NoMemory
by_shard (told ∷ more) zero = told
by_shard (told ∷ more) (suc s) = by_shard more s

-- the standing behind these rounds
abbrev pub standing_by : List (List Told) → Standing
standing_by [] = Fresh
standing_by (a ∷ []) = Once (by_shard a)
standing_by (a ∷ b ∷ []) = Twice (by_shard a) (by_shard b)
standing_by (a ∷ b ∷ c ∷ more) = Thrice (by_shard a) (by_shard b) (by_shard c)

-- ---- the laws

-- what is asked next is due, as that hop
abbrev pub AskedIsDue : Type 0
AskedIsDue =
    (shards i : ℕ) (command : Command) (standing : Standing) (s : ℕ) (act : Act) →
    asks shards command (course_of shards command) standing s ≡ Some act →
    due_by shards command (course_of shards command) (steps_so_far shards i command (course_of shards command) standing) s
    (hop_of shards command (course_of shards command) standing) ≡ Some act

-- and nothing else is due
abbrev pub DueIsAsked : Type 0
DueIsAsked =
    (shards i : ℕ) (command : Command) (standing : Standing) (s j : ℕ) (act : Act) → s < shards → j < 4 →
    due_by shards command (course_of shards command) (steps_so_far shards i command (course_of shards command) standing) s j ≡ Some act →
    (j ≡ hop_of shards command (course_of shards command) standing) × (asks shards command (course_of shards command) standing s ≡ Some act)

-- a further round of answers, as a list, brings it one round further
abbrev pub ListsGoOn : Type 0
ListsGoOn =
    (rounds : List (List Told)) (answers : List Told) → standing_by (rounds ++ answers ∷ []) ≡ then_told (by_shard answers) (standing_by rounds)
