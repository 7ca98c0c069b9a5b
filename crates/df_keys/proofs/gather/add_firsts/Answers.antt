use Rattle.std.proofs.Common.{[], ◌∷◌, subst}
use Rattle.df_model.specs.declared.keys.Mode.TheVariants.{Exclusive}
use Rattle.df_keys.specs.Gathered.{Gathers}
use Rattle.df_keys.proofs.GatheredLaws.{gathers_pair, gathers_none}
use Rattle.df_keys.proofs.gather.add_firsts.Goals as goal

pub pairs-init : goal.pairs-init
pairs-init c = gathers_none c.args.shards c.args.maps.now.items

pub pairs-preserved : goal.pairs-preserved
pairs-preserved c =
    let before = c.pairs.maps.items in
    let after = c.add_key.new.maps.items in
    gathers_pair c.args.shards c.args.maps.now.items before after c.pairs.key-index c.args.pairs.now c.pairs-item.result c.pairs-test.true c.pairs.invariant
    (subst (λ pair. Gathers c.args.shards ((pair.0, Exclusive) ∷ []) before after) c.pairs-item.is c.in_ok-add_key.ensures)
