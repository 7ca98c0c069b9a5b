use Rattle.std.proofs.Common.{[], ◌∷◌, subst}
use Rattle.df_model.specs.declared.keys.Mode.TheVariants.{Exclusive}
use Rattle.df_footprints.specs.Footprints.{on_shard}
use Rattle.df_footprints.specs.Naming.{Adds}
use Rattle.df_footprints.proofs.GatherLaws.{adds_pair}
use Rattle.df_footprints.proofs.gather.add_firsts.Goals as goal

pub pairs-preserved : goal.pairs-preserved
pairs-preserved c =
    let place = c.args.place in
    let es = c.pairs.modes.entries in
    let fs = c.add_key.new.modes.entries in
    adds_pair place.shards place.shard c.args.modes.now.entries es fs c.args.pairs.now c.pairs.key-index c.pairs-item.result c.pairs-test.true c.pairs.invariant
    (subst (λ pair. Adds es (on_shard place.shards place.shard ((pair.0, Exclusive) ∷ [])) fs) c.pairs-item.is c.in_ok-add_key.ensures)
