use Rattle.std.proofs.Common.{[], ◌∷◌, sym, subst}
use Rattle.df_model.specs.declared.keys.Mode.TheVariants.{Shared, Exclusive}
use Rattle.df_footprints.specs.Footprints.{in_mode}
use Rattle.df_footprints.proofs.GatherLaws.{on_ok}
use Rattle.df_keys.specs.Gathered.{Gathers, keys_named}
use Rattle.df_keys.proofs.GatheredLaws.{gathers_both}
use Rattle.df_keys.proofs.gather.add_named.Goals as goal

pub returns-in_ok-add_key-in-BothWritten : goal.returns-in_ok-add_key-in-BothWritten
returns-in_ok-add_key-in-BothWritten c =
    let before = c.args.maps.now.items in
    let between = c.add_key-in-BothWritten.new.maps.items in
    let after = c.add_key-in-BothWritten-2.new.maps.items in
    on_ok c.add_key-in-BothWritten-2.result
    (λ added. subst (λ n. Gathers c.args.shards (keys_named n) before after) (sym c.in-BothWritten.is)
    (gathers_both c.args.shards before between after ((c.in-BothWritten.one.now, Exclusive) ∷ []) ((c.in-BothWritten.other.now, Exclusive) ∷ []) c.in_ok-add_key-in-BothWritten.ensures added))
    c.add_key-in-BothWritten-2.ensures

pub returns-in_ok-add_keys-in-Stored : goal.returns-in_ok-add_keys-in-Stored
returns-in_ok-add_keys-in-Stored c =
    let before = c.args.maps.now.items in
    let between = c.add_keys-in-Stored.new.maps.items in
    let after = c.add_key-in-Stored.new.maps.items in
    on_ok c.add_key-in-Stored.result
    (λ added. subst (λ n. Gathers c.args.shards (keys_named n) before after) (sym c.in-Stored.is)
    (gathers_both c.args.shards before between after (in_mode Shared c.in-Stored.keys.now) ((c.in-Stored.key.now, Exclusive) ∷ []) c.in_ok-add_keys-in-Stored.ensures added))
    c.add_key-in-Stored.ensures
