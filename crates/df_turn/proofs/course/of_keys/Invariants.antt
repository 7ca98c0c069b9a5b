use Rattle.std.proofs.Common.{◌≡◌, drop}
use Rattle.df_core.specs.Courses.{Nowhere}
use Rattle.df_turn.specs.Courses.{course_in, with_keys}
use Rattle.df_turn.proofs.course.of_keys.Given as goal

-- the course so far, with what is left
abbrev pub invariant-keys : goal.invariant-keys
invariant-keys l = with_keys l.shards (drop l.key-index l.keys) (course_in l.course) ≡ with_keys l.shards l.keys Nowhere
