use Rattle.std.proofs.Common.{◌≡◌, ◌+◌, ◌-◌, length, refl, ap, ◌∙◌, rules}
use Rattle.std.proofs.Math.Facts.{to_z-of_z}
use Rattle.df_model.specs.Meaning.Lists.{without}
use Rattle.df_values.specs.declared.edit.Edit.TheVariants.{RemoveEqual}
use Rattle.df_lists.specs.Resized.{resized}
use Rattle.df_lists.proofs.RemovalLaws.{remove_gives}
use Rattle.df_lists.proofs.removal.lrem.Goals as goal

pub returns : goal.returns
returns c =
    let xs = c.args.list.now.items in
    let counted : c.removed_by-removed.result + length (without c.args.count c.args.element xs) ≡ length xs = search rules in
    remove_gives c.args.count c.args.element c.args.list.now c.removed_by-removed.result c.len-before.result _ _ _
    counted c.len-before.ensures refl c.in_ok-put_count.ensures
    (c.resized.ensures ∙ ap (λ n. resized (RemoveEqual c.args.element n) c.len-before.result (c.len-before.result - c.removed_by-removed.result)) (to_z-of_z c.ranges.count))
