use Rattle.std.proofs.Common.{[], ◌∷◌, sym, subst}
use Rattle.df_model.specs.declared.keys.Mode.TheVariants.{Shared, Exclusive}
use Rattle.df_footprints.specs.Footprints.{in_mode, on_shard}
use Rattle.df_footprints.specs.Naming.{Adds, keys_named}
use Rattle.df_footprints.proofs.GatherLaws.{adds_both, on_ok}
use Rattle.df_footprints.proofs.gather.add_named.Goals as goal

pub returns-in_ok-add_keys-in-Stored : goal.returns-in_ok-add_keys-in-Stored
returns-in_ok-add_keys-in-Stored c =
    let place = c.args.place in
    let es = c.args.modes.now.entries in
    let fs = c.add_key-in-Stored.new.modes.entries in
    on_ok c.add_key-in-Stored.result
    (λ added. subst (λ n. Adds es (on_shard place.shards place.shard (keys_named n)) fs) (sym c.in-Stored.is)
    (adds_both place.shards place.shard es c.add_keys-in-Stored.new.modes.entries fs (in_mode Shared c.in-Stored.keys.now) ((c.in-Stored.key.now, Exclusive) ∷ []) c.in_ok-add_keys-in-Stored.ensures added))
    c.add_key-in-Stored.ensures
