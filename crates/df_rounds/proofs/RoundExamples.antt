-- The rounds of some commands, worked out.
use Rattle.std.proofs.Common.{◌≡◌, ℕ, zero, suc, true, false, [], ◌∷◌, refl, codes}
use Rattle.std.specs.Prelude.{Some, None}
use Rattle.df_model.specs.Outcomes.{ok, count}
use Rattle.df_model.specs.Spared.{all_of}
use Rattle.df_model.specs.declared.command.OneOp.TheVariants.{Get}
use Rattle.df_model.specs.declared.command.WholeOp.TheVariants as wholes
use Rattle.df_model.specs.declared.command.Command.{Command}
use Rattle.df_model.specs.declared.command.Command.TheVariants.{One, Whole}
use Rattle.df_model.specs.declared.command.Call.TheVariants.{Exec}
use Rattle.df_log.specs.Acts.{Run, Stage, Unstage, Count, Clear, Told, Number, Staged, Applied, NoMemory}
use Rattle.df_core.specs.Courses.{Counts, Clears, course_of}
use Rattle.df_core.specs.Done.{want_of_memory}
use Rattle.df_rounds.specs.Standing.{Fresh, Once, Twice, asks, hop_of, goes_on}
use Rattle.df_rounds.specs.Replies.{reply_of, kept_of}
use Rattle.df_rounds.specs.Progress.{Progress, progress_of, asks_next, hop_next, after_round, after_command}

-- ---- GET: of four shards, a stands on 0

abbrev get : Command
get = One (codes "a") Get

get_runs_on_its_shard : asks 4 get (course_of 4 get) Fresh 0 ≡ Some (Run get)
get_runs_on_its_shard = refl

get_runs_on_no_other : asks 4 get (course_of 4 get) Fresh 1 ≡ None
get_runs_on_no_other = refl

-- ---- DBSIZE on two shards

abbrev dbsize : Command
dbsize = Whole wholes.Dbsize

abbrev counted : ℕ → Told
counted zero = Number 3
counted (suc s) = Number 4

abbrev wanting : ℕ → Told
wanting zero = NoMemory
wanting (suc s) = Number 4

dbsize_asks_each : asks 2 dbsize (course_of 2 dbsize) Fresh 1 ≡ Some Count
dbsize_asks_each = refl

dbsize_is_over : goes_on 2 dbsize Counts (Once counted) ≡ false
dbsize_is_over = refl

dbsize_adds : reply_of 2 dbsize Counts ok (Once counted) ≡ count 7
dbsize_adds = refl

dbsize_wants_memory : reply_of 2 dbsize Counts ok (Once wanting) ≡ want_of_memory
dbsize_wants_memory = refl

-- ---- FLUSHALL on two shards

abbrev flush_all : Command
flush_all = Whole wholes.Flushall

abbrev staged : ℕ → Told
staged s = Staged

abbrev applied : ℕ → Told
applied s = Applied

-- the first shard found no memory
abbrev short : ℕ → Told
short zero = NoMemory
short (suc s) = Staged

flush_stages : asks 2 flush_all (course_of 2 flush_all) Fresh 1 ≡ Some (Stage [])
flush_stages = refl

flush_stages_as_hop : hop_of 2 flush_all Clears Fresh ≡ 1
flush_stages_as_hop = refl

flush_clears : asks 2 flush_all Clears (Once staged) 1 ≡ Some Clear
flush_clears = refl

flush_is_ok : reply_of 2 flush_all Clears ok (Twice staged applied) ≡ ok
flush_is_ok = refl

flush_is_kept : kept_of 2 flush_all Clears (Twice staged applied) ≡ true
flush_is_kept = refl

flush_takes_back_where_it_found_none : asks 2 flush_all Clears (Once short) 0 ≡ Some Unstage
flush_takes_back_where_it_found_none = refl

flush_takes_back_where_it_staged : asks 2 flush_all Clears (Once short) 1 ≡ Some Unstage
flush_takes_back_where_it_staged = refl

flush_takes_back_as_hop : hop_of 2 flush_all Clears (Once short) ≡ 3
flush_takes_back_as_hop = refl

flush_wants_memory : reply_of 2 flush_all Clears ok (Twice short applied) ≡ want_of_memory
flush_wants_memory = refl

-- ---- EXEC of DBSIZE and FLUSHALL: the hops of the second command begin at 4

abbrev second : Progress
second = after_command (count 7) (flush_all ∷ []) (after_round counted (progress_of (Exec (all_of (dbsize ∷ flush_all ∷ [])))))

second_stages : asks_next 2 second 0 ≡ Some (Stage [])
second_stages = refl

second_stages_as_hop : hop_next 2 second ≡ 5
second_stages_as_hop = refl
