use Rattle.std.proofs.Common.{[], ◌∷◌, refl, sym, ap, subst, ◌∙◌}
use Rattle.std.specs.BTreeMap.{insert_entry}
use Rattle.df_footprints.specs.Naming.{Adds}
use Rattle.df_footprints.proofs.GatherLaws.{order, adds_covered, adds_new}
use Rattle.df_keys.proofs.gather.add_to_many.Goals as goal

pub returns-in_ok-insert : goal.returns-in_ok-insert
returns-in_ok-insert c =
    let es = c.args.modes.now.entries in
    let key = c.args.key.now in
    subst (Adds es ((key, c.args.mode) ∷ []))
    (sym (c.in_ok-insert.ensures.entries ∙ ap (λ k. insert_entry order es k c.args.mode) c.in_ok-copy.ensures))
    (adds_new es key c.args.mode c.copied.result (c.copied.ensures ∙ c.get.ensures.value) (c.if-not-is_covered.ensures.not_covered refl))

pub returns-else-not-is_covered : goal.returns-else-not-is_covered
returns-else-not-is_covered c =
    adds_covered c.args.modes.now.entries c.args.key.now c.args.mode c.copied.result (c.copied.ensures ∙ c.get.ensures.value) (c.if-not-is_covered.ensures.covered refl)
