use Rattle.std.proofs.Common.{◌≡◌, rules, ap, ◌∙◌, ◌∷◌, []}
use Rattle.df_model.specs.Patterns.{parts}
use Rattle.df_text.specs.Runs.{ran}
use Rattle.df_text.proofs.ReadingLaws.{at_star_first, fails_empty}
use Rattle.df_text.proofs.pattern.run_to_star.Goals as goal

pub returns-then-first-eq42-clause-run : goal.returns-then-first-eq42-clause-run
returns-then-first-eq42-clause-run c = c.parts.invariant.same ∙ at_star_first c.in-Some.first c.parts.pattern.now c.in-Some.after.now c.parts.text.now (search rules) c.if-first-eq42.true

pub returns-in_default-split_first-clause-run : goal.returns-in_default-split_first-clause-run
returns-in_default-split_first-clause-run c =
    let p : c.parts.pattern.now ≡ c.in-Some.first ∷ c.in-Some.after.now = search rules in
    let t : c.parts.text.now ≡ [] = search rules in
    c.parts.invariant.same ∙ ap (λ x. ran (parts x) c.parts.text.now) p ∙ ap (λ x. ran (parts (c.in-Some.first ∷ c.in-Some.after.now)) x) t ∙ fails_empty c.in-Some.first c.in-Some.after.now c.if-first-eq42.false
