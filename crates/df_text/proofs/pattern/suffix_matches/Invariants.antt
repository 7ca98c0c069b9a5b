use Rattle.std.proofs.Common.{◌≡◌, ◌+◌, length}
use Rattle.df_model.specs.Patterns.{parts, matches, some_suffix}
use Rattle.df_text.proofs.pattern.suffix_matches.Given as goal

abbrev pub invariant-suffixes : goal.invariant-suffixes
invariant-suffixes l = some_suffix (matches (parts l.fn.pattern)) l.fn.text ≡ some_suffix (matches (parts l.pattern)) l.text

abbrev pub decreases-suffixes : goal.decreases-suffixes
decreases-suffixes l = length l.pattern + length l.text
