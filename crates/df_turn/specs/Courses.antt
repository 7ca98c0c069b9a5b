-- The course of a command, as it is found at run time.
use Rattle.std.specs.Prelude.{ℕ, ◌==◌, cond, List, [], ◌∷◌}
use Rattle.df_model.specs.Values.{Bytes}
use Rattle.df_model.specs.Hash.{shard_of}
use Rattle.df_model.specs.Access.{Access}
use Rattle.df_core.specs.Courses as courses
use Rattle.df_turn.specs.declared.course.Course.{Course}
use Rattle.df_turn.specs.declared.course.Course.TheVariants as found

abbrev pub course_in : Course → courses.Course
course_in found.Nowhere = courses.Nowhere
course_in (found.Alone s) = courses.Alone s
course_in found.Spread = courses.Spread
course_in found.Names = courses.Names
course_in found.Counts = courses.Counts
course_in found.Cuts = courses.Cuts
course_in found.Clears = courses.Clears

-- it asks the same of each shard, by one message each
abbrev pub IsOfEach : Course → Type 0
IsOfEach found.Nowhere = ⊥
IsOfEach (found.Alone s) = ⊥
IsOfEach found.Spread = ⊥
IsOfEach found.Names = Unit {0}
IsOfEach found.Counts = Unit {0}
IsOfEach found.Cuts = Unit {0}
IsOfEach found.Clears = Unit {0}

-- of a command with some keys, the course with one more, on this shard
abbrev pub with_key : ℕ → courses.Course → courses.Course
with_key s courses.Nowhere = courses.Alone s
with_key s (courses.Alone t) = cond (s == t) (courses.Alone t) courses.Spread
with_key s courses.Spread = courses.Spread
with_key s courses.Names = courses.Names
with_key s courses.Counts = courses.Counts
with_key s courses.Cuts = courses.Cuts
with_key s courses.Clears = courses.Clears

-- with these more
abbrev pub with_keys : ℕ → List Bytes → courses.Course → courses.Course
with_keys shards [] course = course
with_keys shards (key ∷ keys) course = with_keys shards keys (with_key (shard_of key shards) course)

-- of an access: with the keys that it reads, and then those that it may write
abbrev pub course_by : ℕ → Access → courses.Course
course_by shards a = with_keys shards a.writes (with_keys shards a.reads courses.Nowhere)
