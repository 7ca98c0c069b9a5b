use Rattle.std.proofs.Common.{subst, IfOk, Some}
use Rattle.df_model.specs.Outcomes.{Outcome}
use Rattle.df_values.specs.Prepares.{Makes}
use Rattle.df_values.specs.declared.value.Value.TheVariants.{Set}
use Rattle.df_sets.proofs.MemberLaws.{removes_none}
use Rattle.df_sets.proofs.remove.remove.Goals as goal

pub returns-then-gone-eq0 : goal.returns-then-gone-eq0
returns-then-gone-eq0 c =
    subst (λ (o : Outcome). IfOk c.unchanged.result (λ change. Makes o (Some (Set c.args.set.now)) c.unchanged.new.reply change))
    (removes_none c.args.words.items c.as_slice.result.now c.args.set.now.members c.in_ok-gone.gone c.as_slice.ensures c.in_ok-gone.ensures c.if-gone-eq0.true)
    c.unchanged.ensures
