use Rattle.std.proofs.Common.{ap, sym, ◌∙◌}
use Rattle.df_model.specs.Patterns.{parts}
use Rattle.df_text.proofs.RunLaws.{matches_ran, ends}
use Rattle.df_text.proofs.pattern.glob.Goals as goal

pub returns-in-Matched : goal.returns-in-Matched
returns-in-Matched c = sym (matches_ran (parts c.args.pattern.now) c.args.text.now ∙ ap ends c.in-Matched.ensures.run)

pub returns-in-Failed : goal.returns-in-Failed
returns-in-Failed c = sym (matches_ran (parts c.args.pattern.now) c.args.text.now ∙ ap ends c.in-Failed.ensures.run)

pub returns-in-AtStar : goal.returns-in-AtStar
returns-in-AtStar c = c.suffix_matches.ensures ∙ sym (matches_ran (parts c.args.pattern.now) c.args.text.now ∙ ap ends c.in-AtStar.ensures.run)
