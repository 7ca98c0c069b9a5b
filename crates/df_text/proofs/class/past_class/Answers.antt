use Rattle.std.proofs.Common.{◌≡◌, rules, sym, subst, ◌∷◌}
use Rattle.df_model.specs.Patterns.{parts}
use Rattle.df_text.specs.Calls.Part.{IsPast}
use Rattle.df_text.proofs.ReadingLaws.{class_first}
use Rattle.df_text.proofs.class.past_class.Goals as goal

pub returns-in-Some-clause-past : goal.returns-in-Some-clause-past
returns-in-Some-clause-past c = let e : c.args.bytes.now ≡ 94 ∷ c.in-Some.items.now = search rules in subst (λ x. IsPast (parts (91 ∷ x)) c.args.byte c.past_items.result) (sym e) c.past_items.ensures.past

pub returns-in-None-clause-past : goal.returns-in-None-clause-past
returns-in-None-clause-past c = subst (λ x. IsPast x c.args.byte c.past_items-in-None.result) (sym (class_first c.args.bytes.now c.in-None.ensures)) c.past_items-in-None.ensures.past
