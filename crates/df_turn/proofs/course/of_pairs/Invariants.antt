use Rattle.std.proofs.Common.{◌≡◌, drop}
use Rattle.df_model.specs.Meaning.{firsts}
use Rattle.df_core.specs.Courses.{Nowhere}
use Rattle.df_turn.specs.Courses.{course_in, with_keys}
use Rattle.df_turn.proofs.course.of_pairs.Given as goal

-- the course so far, with what is left
abbrev pub invariant-pairs : goal.invariant-pairs
invariant-pairs l = with_keys l.shards (firsts (drop l.pair-index l.pairs)) (course_in l.course) ≡ with_keys l.shards (firsts l.pairs) Nowhere
