use Rattle.std.proofs.Common.{[], ◌∷◌, subst}
use Rattle.df_keys.specs.Gathered.{Gathers}
use Rattle.df_keys.proofs.GatheredLaws.{gathers_key, gathers_none}
use Rattle.df_keys.proofs.gather.add_keys.Goals as goal

pub keys-init : goal.keys-init
keys-init c = gathers_none c.args.shards c.args.maps.now.items

pub keys-preserved : goal.keys-preserved
keys-preserved c =
    let before = c.keys.maps.items in
    let after = c.add_key.new.maps.items in
    gathers_key c.args.shards c.args.maps.now.items before after c.keys.key-index c.args.mode c.args.keys.now c.key-item.result c.keys-test.true c.keys.invariant
    (subst (λ key. Gathers c.args.shards ((key, c.args.mode) ∷ []) before after) c.key-item.is c.in_ok-add_key.ensures)
