use Rattle.std.proofs.Common.{[], ◌∷◌, subst}
use Rattle.df_footprints.specs.Footprints.{on_shard}
use Rattle.df_footprints.specs.Naming.{Adds}
use Rattle.df_footprints.proofs.GatherLaws.{adds_key}
use Rattle.df_footprints.proofs.gather.add_keys.Goals as goal

pub keys-preserved : goal.keys-preserved
keys-preserved c =
    let place = c.args.place in
    let es = c.keys.modes.entries in
    let fs = c.add_key.new.modes.entries in
    adds_key place.shards place.shard c.args.mode c.args.modes.now.entries es fs c.args.keys.now c.keys.key-index c.key-item.result c.keys-test.true c.keys.invariant
    (subst (λ key. Adds es (on_shard place.shards place.shard ((key, c.args.mode) ∷ [])) fs) c.key-item.is c.in_ok-add_key.ensures)
