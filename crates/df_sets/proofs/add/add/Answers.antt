use Rattle.std.proofs.Common.{subst, IfOk, Some}
use Rattle.df_model.specs.Outcomes.{Outcome}
use Rattle.df_values.specs.Prepares.{Makes}
use Rattle.df_values.specs.declared.value.Value.TheVariants.{Set}
use Rattle.df_sets.proofs.MemberLaws.{adds_none}
use Rattle.df_sets.proofs.add.add.Goals as goal

pub returns-then-new-eq0-clause-ok : goal.returns-then-new-eq0-clause-ok
returns-then-new-eq0-clause-ok c =
    subst (λ (o : Outcome). IfOk c.unchanged.result (λ change. Makes o (Some (Set c.args.set.now)) c.unchanged.new.reply change))
    (adds_none c.args.words.items c.as_slice.result.now c.args.set.now.members c.in_ok-new.new c.as_slice.ensures c.in_ok-new.ensures c.if-new-eq0.true)
    c.unchanged.ensures
