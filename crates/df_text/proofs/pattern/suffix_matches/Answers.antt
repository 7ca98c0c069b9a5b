use Rattle.std.proofs.Common.{ap, sym, ◌∙◌, rules}
use Rattle.df_model.specs.Patterns.{parts, matches}
use Rattle.df_text.proofs.RunLaws.{matches_ran, ends, itself, leftmost, past_first, past_all}
use Rattle.df_text.proofs.pattern.suffix_matches.Goals as goal

pub returns-in-Matched : goal.returns-in-Matched
returns-in-Matched c = sym (c.suffixes.invariant ∙ itself (matches (parts c.suffixes.pattern.now)) c.suffixes.text.now (matches_ran (parts c.suffixes.pattern.now) c.suffixes.text.now ∙ ap ends c.in-Matched.ensures.run))

pub suffixes-preserved-in-AtStar : goal.suffixes-preserved-in-AtStar
suffixes-preserved-in-AtStar c = c.suffixes.invariant ∙ leftmost (parts c.suffixes.pattern.now) (parts c.in-AtStar.after.now) c.suffixes.text.now c.in-AtStar.left.now c.in-AtStar.ensures.run

pub returns-in-None : goal.returns-in-None
returns-in-None c = sym (c.suffixes.invariant ∙ past_all (parts c.suffixes.pattern.now) c.suffixes.text.now (search rules) c.in-Failed.ensures.run)

pub suffixes-preserved : goal.suffixes-preserved
suffixes-preserved c = c.suffixes.invariant ∙ past_first (parts c.suffixes.pattern.now) c.suffixes.text.now c.in-Some._first c.in-Some.later.now (search rules) c.in-Failed.ensures.run
