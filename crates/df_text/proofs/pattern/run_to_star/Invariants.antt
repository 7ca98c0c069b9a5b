use Rattle.std.proofs.Common.{◌≡◌, ◌≤◌, length}
use Rattle.df_model.specs.Patterns.{parts}
use Rattle.df_text.specs.Runs.{ran}
use Rattle.df_text.proofs.pattern.run_to_star.Given as goal

abbrev pub invariant-parts : goal.invariant-parts
invariant-parts l = record {
  same : ran (parts l.fn.pattern) l.fn.text ≡ ran (parts l.pattern) l.text;
  pattern : length l.pattern ≤ length l.fn.pattern;
  text : length l.text ≤ length l.fn.text;
}

abbrev pub decreases-parts : goal.decreases-parts
decreases-parts l = length l.pattern
