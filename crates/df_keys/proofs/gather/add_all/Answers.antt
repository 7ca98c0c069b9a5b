use Rattle.std.proofs.Common.{subst, ap, ◌∙◌}
use Rattle.df_footprints.specs.Footprints.{keys_of}
use Rattle.df_keys.specs.Gathered.{Gathers}
use Rattle.df_keys.proofs.GatheredLaws.{gathers_command, gathers_none}
use Rattle.df_keys.proofs.gather.add_all.Goals as goal

pub commands-init : goal.commands-init
commands-init c = gathers_none c.args.shards c.args.maps.now.items

pub commands-preserved : goal.commands-preserved
commands-preserved c =
    let before = c.commands.maps.items in
    let after = c.add_named.new.maps.items in
    gathers_command c.args.shards c.args.maps.now.items before after c.commands.command-index c.args.commands.now c.command-item.result c.commands-test.true c.commands.invariant
    (subst (λ ms. Gathers c.args.shards ms before after) (c.keys_of.ensures ∙ ap keys_of c.command-item.is) c.in_ok-add_named.ensures)
