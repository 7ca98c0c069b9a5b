-- The reply of a command that is over, computed from what its shards told, and whether it is kept.
use Rattle.std.specs.Prelude.{◌≡◌, ℕ, ◌<◌, Bool, true, false, not, cond, List, []}
use Rattle.std.specs.List.{filter}
use Rattle.df_model.specs.Values.{Bytes, Members}
use Rattle.df_model.specs.Members as members
use Rattle.df_model.specs.Keyspace.{Keyspace, no_keys}
use Rattle.df_model.specs.Patterns.{is_match}
use Rattle.df_model.specs.Meaning.{meaning}
use Rattle.df_model.specs.Outcomes.{ok, count, bulks}
use Rattle.df_model.specs.declared.command.WholeOp.TheVariants as wholes
use Rattle.df_model.specs.declared.command.Command.{Command}
use Rattle.df_model.specs.declared.command.Command.TheVariants.{Plain, One, Many, Whole, Wrong}
use Rattle.df_model.specs.declared.reply.Reply.{Reply}
use Rattle.df_log.specs.Acts.{Told, Ran, Values, Staged, Applied, Number, Cut, NoMemory, Refused, Handed, Replied}
use Rattle.df_log.specs.Acts as acts
use Rattle.df_log.specs.Parts.{did}
use Rattle.df_core.specs.Courses.{Course, Nowhere, Alone, Spread, Counts, Cuts, Clears, course_of}
use Rattle.df_core.specs.Courses as courses
use Rattle.df_core.specs.Done.{Done, IsSaveReply, names_of, sum_of, want_of_memory}
use Rattle.df_rounds.specs.Standing.{Standing, Fresh, Once, Twice, Thrice, round_wanted, first_asked, second_asked, values_told, goes_on, steps_so_far, IsReached}

-- ---- what one shard told

-- the reply of a command that ran there
abbrev pub reply_in : Told → Reply
reply_in (Ran reply) = reply
reply_in (Values values) = want_of_memory
reply_in Staged = want_of_memory
reply_in Applied = want_of_memory
reply_in (acts.Names names) = want_of_memory
reply_in (Number n) = want_of_memory
reply_in (Cut pairs) = want_of_memory
reply_in NoMemory = want_of_memory
reply_in (Refused limit) = want_of_memory
reply_in (Handed bytes) = want_of_memory
reply_in (Replied reply) = want_of_memory

-- the names of its keys
abbrev pub names_in : Told → List Bytes
names_in (acts.Names names) = names
names_in (Ran reply) = []
names_in (Values values) = []
names_in Staged = []
names_in Applied = []
names_in (Number n) = []
names_in (Cut pairs) = []
names_in NoMemory = []
names_in (Refused limit) = []
names_in (Handed bytes) = []
names_in (Replied reply) = []

-- the count of its keys
abbrev pub number_in : Told → ℕ
number_in (Number n) = n
number_in (Ran reply) = 0
number_in (Values values) = 0
number_in Staged = 0
number_in Applied = 0
number_in (acts.Names names) = 0
number_in (Cut pairs) = 0
number_in NoMemory = 0
number_in (Refused limit) = 0
number_in (Handed bytes) = 0
number_in (Replied reply) = 0

-- its keys with their values
abbrev pub cut_in : Told → Keyspace
cut_in (Cut pairs) = pairs
cut_in (Ran reply) = no_keys
cut_in (Values values) = no_keys
cut_in Staged = no_keys
cut_in Applied = no_keys
cut_in (acts.Names names) = no_keys
cut_in (Number n) = no_keys
cut_in NoMemory = no_keys
cut_in (Refused limit) = no_keys
cut_in (Handed bytes) = no_keys
cut_in (Replied reply) = no_keys

-- ---- the reply

-- KEYS, with these names on the shards
abbrev pub names_reply : Command → Members → Reply
names_reply (Plain op) names = want_of_memory
names_reply (One key op) names = want_of_memory
names_reply (Many op) names = want_of_memory
names_reply (Whole wholes.Dbsize) names = want_of_memory
names_reply (Whole (wholes.Keys pattern)) names = bulks (filter (is_match pattern) (members.items names))
names_reply (Whole wholes.Flushall) names = want_of_memory
names_reply (Whole wholes.Flushdb) names = want_of_memory
names_reply (Whole wholes.Save) names = want_of_memory
names_reply (Wrong error) names = want_of_memory

-- after one round; `saved` is what SAVE is answered once its cuts were written
abbrev pub once_reply : ℕ → Command → Course → Reply → (ℕ → Told) → Reply
once_reply shards command Nowhere saved a = (meaning command no_keys).0
once_reply shards command (Alone t) saved a = reply_in (a t)
once_reply shards command Spread saved a =
    cond (round_wanted shards (first_asked shards command Spread) a) want_of_memory (meaning command (values_told shards command a)).0
once_reply shards command courses.Names saved a =
    cond (round_wanted shards (first_asked shards command courses.Names) a) want_of_memory (names_reply command (names_of (λ t. names_in (a t)) shards))
once_reply shards command Counts saved a =
    cond (round_wanted shards (first_asked shards command Counts) a) want_of_memory (count (sum_of (λ t. number_in (a t)) shards))
once_reply shards command Cuts saved a = saved
once_reply shards command Clears saved a = want_of_memory

-- the reply of a command that is over
abbrev pub reply_of : ℕ → Command → Course → Reply → Standing → Reply
reply_of shards command course saved Fresh = (meaning command no_keys).0
reply_of shards command course saved (Once a) = once_reply shards command course saved a
reply_of shards command course saved (Twice a b) = cond (round_wanted shards (first_asked shards command course) a) want_of_memory ok
reply_of shards command course saved (Thrice a b c) =
    cond (round_wanted shards (second_asked shards command course a) b) want_of_memory (meaning command (values_told shards command a)).0

-- ---- whether it is kept

abbrev pub once_kept : Course → (ℕ → Told) → Bool
once_kept Nowhere a = false
once_kept (Alone t) a = did (a t)
once_kept Spread a = false
once_kept courses.Names a = false
once_kept Counts a = false
once_kept Cuts a = false
once_kept Clears a = false

-- it ran and had memory, or its changes were applied
abbrev pub kept_of : ℕ → Command → Course → Standing → Bool
kept_of shards command course Fresh = false
kept_of shards command course (Once a) = once_kept course a
kept_of shards command course (Twice a b) = not (round_wanted shards (first_asked shards command course) a)
kept_of shards command course (Thrice a b c) = not (round_wanted shards (second_asked shards command course a) b)

-- ---- where a command may stop for want of memory

-- Its reply takes memory that no shard takes for it: a reply without a hop; the names of KEYS put together; and what was
-- read of several shards, with what changes there.
abbrev pub may_stop : Course → Standing → Bool
may_stop Nowhere Fresh = true
may_stop Nowhere (Once a) = false
may_stop Nowhere (Twice a b) = false
may_stop Nowhere (Thrice a b c) = false
may_stop (Alone t) standing = false
may_stop Spread Fresh = false
may_stop Spread (Once a) = true
may_stop Spread (Twice a b) = false
may_stop Spread (Thrice a b c) = false
may_stop courses.Names Fresh = false
may_stop courses.Names (Once a) = true
may_stop courses.Names (Twice a b) = false
may_stop courses.Names (Thrice a b c) = false
may_stop Counts standing = false
may_stop Cuts standing = false
may_stop Clears standing = false

-- ---- the laws

-- a command that asks for nothing more is done
abbrev pub OverIsDone : Type 0
OverIsDone =
    (shards i : ℕ) (command : Command) (standing : Standing) (saved : Reply) → 0 < shards →
    IsReached shards command (course_of shards command) standing → goes_on shards command (course_of shards command) standing ≡ false →
    (course_of shards command ≡ Cuts → IsSaveReply saved) →
    Done shards i command (steps_so_far shards i command (course_of shards command) standing)
    (kept_of shards command (course_of shards command) standing) (reply_of shards command (course_of shards command) saved standing)

-- and so is one that stops for want of memory where it may; it isn't kept
abbrev pub StopIsDone : Type 0
StopIsDone =
    (shards i : ℕ) (command : Command) (standing : Standing) → 0 < shards →
    IsReached shards command (course_of shards command) standing → may_stop (course_of shards command) standing ≡ true →
    Done shards i command (steps_so_far shards i command (course_of shards command) standing) false want_of_memory
