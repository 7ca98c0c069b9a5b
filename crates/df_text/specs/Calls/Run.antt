-- What a run along a pattern answers.
use Rattle.std.specs.Prelude.{◌≡◌, ◌<◌, ◌≤◌, length}
use Rattle.df_model.specs.Values.{Bytes}
use Rattle.df_model.specs.Patterns.{parts}
use Rattle.df_text.specs.Runs.{Ran}
use Rattle.df_text.specs.declared.pattern.Run.{Run}
use Rattle.df_text.specs.declared.pattern.Run.TheVariants as run

abbrev pub IsRun : Ran → Run → Type 0
IsRun r run.Matched = r ≡ Ran.Matched
IsRun r run.Failed = r ≡ Ran.Failed
IsRun r (run.AtStar pattern text) = r ≡ Ran.AtStar (parts pattern.now) text.now

-- a run to a star takes a byte of the pattern at least
abbrev pub IsShorterRun : Bytes → Bytes → Run → Type 0
IsShorterRun pattern text run.Matched = Unit {0}
IsShorterRun pattern text run.Failed = Unit {0}
IsShorterRun pattern text (run.AtStar after left) = (length after.now < length pattern) × (length left.now ≤ length text)
