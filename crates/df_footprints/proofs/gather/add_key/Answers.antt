use Rattle.std.proofs.Common.{[], ◌∷◌, refl, sym, ap, subst, ◌∙◌}
use Rattle.df_footprints.specs.Footprints.{on_shard}
use Rattle.df_footprints.specs.Naming.{Adds}
use Rattle.std.specs.BTreeMap.{insert_entry}
use Rattle.df_footprints.proofs.GatherLaws.{order, adds_here, adds_covered, adds_new}
use Rattle.df_footprints.proofs.gather.add_key.Goals as goal

pub returns-in_ok-insert : goal.returns-in_ok-insert
returns-in_ok-insert c =
    let es = c.args.modes.now.entries in
    let key = c.args.key.now in
    subst (Adds es (on_shard c.args.place.shards c.args.place.shard ((key, c.args.mode) ∷ [])))
    (sym (c.in_ok-insert.ensures.entries ∙ ap (λ k. insert_entry order es k c.args.mode) c.in_ok-copy.ensures))
    (adds_here c.args.place.shards c.args.place.shard key c.args.mode es (insert_entry order es key c.args.mode) c.if-not-has.ensures
    (adds_new es key c.args.mode c.copied.result (c.copied.ensures ∙ c.get.ensures.value) (c.if-not-is_covered.ensures.not_covered refl)))

pub returns-else-not-is_covered : goal.returns-else-not-is_covered
returns-else-not-is_covered c =
    let es = c.args.modes.now.entries in
    let key = c.args.key.now in
    adds_here c.args.place.shards c.args.place.shard key c.args.mode es es c.if-not-has.ensures
    (adds_covered es key c.args.mode c.copied.result (c.copied.ensures ∙ c.get.ensures.value) (c.if-not-is_covered.ensures.covered refl))
