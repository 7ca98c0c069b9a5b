use Rattle.std.proofs.Common.{◌≡◌, [], IfOk, sym, ap, subst, ◌∙◌}
use Rattle.std.proofs.lemmas.List.{take_all}
use Rattle.df_footprints.specs.Footprints.{keys_of, keys_of_all, on_shard}
use Rattle.df_footprints.specs.Naming.{Adds}
use Rattle.df_footprints.proofs.GatherLaws.{adds_command, gathered}
use Rattle.df_footprints.proofs.asked.of_commands.Goals as goal

pub commands-preserved : goal.commands-preserved
commands-preserved c =
    let place = c.args.place in
    let es = c.commands.modes.entries in
    let fs = c.add_named.new.modes.entries in
    adds_command place.shards place.shard [] es fs c.args.commands.now c.commands.command-index c.command-item.result c.commands-test.true c.commands.invariant
    (subst (λ ms. Adds es (on_shard place.shards place.shard ms) fs) (c.keys_of.ensures ∙ ap keys_of c.command-item.is) c.in_ok-add_named.ensures)

pub returns : goal.returns
returns c =
    let place = c.args.place in
    subst (λ asked. IfOk c.into_keys.result (λ keys. keys ≡ asked))
    (gathered place.shards place.shard c.args.commands.now c.commands.modes.entries (sym c.some_whole.ensures ∙ c.if-some_whole.false)
    (subst (λ commands. Adds [] (on_shard place.shards place.shard (keys_of_all commands)) c.commands.modes.entries) (take_all c.commands.command-index c.args.commands.now c.commands-test.false) c.commands.invariant))
    c.into_keys.ensures
