use Rattle.std.proofs.Common.{◌≡◌, [], ◌∷◌, IfOk, inl, inr, sym, ap, subst, ◌∙◌}
use Rattle.df_footprints.specs.Footprints.{footprint_of_commands, keys_of, on_shard}
use Rattle.df_footprints.specs.Naming.{Adds, keys_named}
use Rattle.df_footprints.proofs.GatherLaws.{gathered_one, no_keys}
use Rattle.df_footprints.proofs.asked.of_command.Goals as goal

pub returns-in_ok-add_named-in-Many : goal.returns-in_ok-add_named-in-Many
returns-in_ok-add_named-in-Many c =
    let place = c.args.place in
    let es = c.add_named.new.modes.entries in
    subst (λ asked. IfOk c.into_keys.result (λ keys. keys ≡ asked))
    (gathered_one place.shards place.shard c.in-Many.field-0 es
    (subst (λ ms. Adds [] (on_shard place.shards place.shard ms) es) (c.keys_of.ensures ∙ ap keys_of c.in-Many.is)
    (subst (λ none. Adds none (on_shard place.shards place.shard (keys_named c.keys_of.result)) es) c.new-modes.ensures.empty c.in_ok-add_named-in-Many.ensures))
    ∙ sym (ap (λ command. footprint_of_commands place.shards place.shard (command ∷ [])) c.in-Many.is))
    c.into_keys.ensures

pub returns-in-Plain : goal.returns-in-Plain
returns-in-Plain c =
    let place = c.args.place in
    elim c.in-Plain.is [
      | inl p ↦ no_keys ∙ sym (ap (λ command. footprint_of_commands place.shards place.shard (command ∷ [])) p.1)
      | inr p ↦ no_keys ∙ sym (ap (λ command. footprint_of_commands place.shards place.shard (command ∷ [])) p.1)
    ]
