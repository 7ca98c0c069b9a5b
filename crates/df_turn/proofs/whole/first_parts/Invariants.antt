use Rattle.std.proofs.Common.{◌≡◌, ℕ, ◌<◌, length}
use Rattle.std.specs.Option.{option_map}
use Rattle.df_model.specs.declared.command.Command.{Command}
use Rattle.df_rounds.specs.Standing.{first_asked}
use Rattle.df_hops.specs.Parts.{act_of}
use Rattle.df_turn.specs.Courses.{course_in}
use Rattle.df_turn.specs.Turns.{part_for}
use Rattle.df_turn.proofs.whole.first_parts.Given as goal

abbrev pub invariant-shards : goal.invariant-shards
invariant-shards l = record {
  count : length l.parts.items ≡ l._shard;
  parts : (command : Command) (k : ℕ) → k < l._shard → option_map act_of (part_for k l.parts.items) ≡ first_asked l.shards command (course_in l.course) k;
}
