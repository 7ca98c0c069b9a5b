use Rattle.std.proofs.Common.{◌≡◌, ap, ◌∙◌, ◌-◌, to_z, of_z, w64, rules}
use Rattle.std.proofs.Math.Facts.{to_z-of_z}
use Rattle.df_model.specs.Ranges as ranges
use Rattle.df_values.specs.declared.edit.Edit.TheVariants.{Trim}
use Rattle.df_lists.specs.Resized.{resized}
use Rattle.df_lists.proofs.RemovalLaws.{trim_gives}
use Rattle.df_lists.proofs.removal.ltrim.Goals as goal

pub returns : goal.returns
returns c =
    let ends : c.ends-start.result ≡ (ranges.start c.args.from c.len-before.result, ranges.stop c.args.to c.len-before.result) = search rules in
    let makes : c.resized.result ≡ resized (Trim c.args.from c.args.to) c.len-before.result c.saturating_sub-after.result =
    c.resized.ensures ∙ ap (λ from. resized (Trim from (to_z w64 (of_z w64 c.args.to))) c.len-before.result c.saturating_sub-after.result) (to_z-of_z c.ranges.from) ∙ ap (λ to. resized (Trim c.args.from to) c.len-before.result c.saturating_sub-after.result) (to_z-of_z c.ranges.to) in
    trim_gives c.args.from c.args.to c.args.list.now c.len-before.result c.saturating_sub-after.result _ _ c.len-before.ensures
    (c.saturating_sub-after.ensures ∙ ap (λ pair. pair.1 - pair.0) ends) c.in_ok-put_ok.ensures makes
