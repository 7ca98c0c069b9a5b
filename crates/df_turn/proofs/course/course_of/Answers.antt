use Rattle.std.proofs.Common.{sym, ap, ◌∙◌}
use Rattle.df_model.specs.Meaning.{many}
use Rattle.df_core.specs.Courses.{course_of}
use Rattle.df_turn.proofs.CourseLaws.{access_course}
use Rattle.df_turn.proofs.course.course_of.Goals as goal

pub returns-in-Many : goal.returns-in-Many
returns-in-Many c =
    c.of_many.ensures ∙ access_course c.args.shards (many c.in-Many.op) ∙ sym (ap (course_of c.args.shards) c.in-Many.is)
