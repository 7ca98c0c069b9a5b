use Rattle.std.proofs.Common.{◌≡◌, [], ◌∷◌, ◌++◌, ap, ◌∙◌}
use Rattle.std.specs.Prelude.{Some}
use Rattle.df_model.specs.Spared.{all_of}
use Rattle.df_model.specs.declared.keys.Keys.TheVariants as kinds
use Rattle.df_footprints.proofs.GatherLaws.{one_key, no_key}
use Rattle.df_footprints.proofs.asked.of_key.Goals as goal

pub returns-then-not-has : goal.returns-then-not-has
returns-then-not-has c = no_key c.args.place.shards c.args.place.shard c.args.key.now c.args.mode c.if-not-has.ensures

pub returns : goal.returns
returns c =
    let mode = c.args.mode in
    let items : c.push.new.self.items ≡ (c.args.key.now, mode) ∷ [] =
    c.push.ensures.items ∙ ap (λ held. held ++ (c.in_ok-copy.field-0, mode) ∷ []) (c.in_ok-reserve.ensures.items ∙ ap (λ keys. keys.items) c.new-keys.ensures) ∙ ap (λ key. (key, mode) ∷ []) c.in_ok-copy.ensures in
    ap (λ keys. Some (kinds.Some keys)) (c.seal.ensures ∙ ap all_of items)
    ∙ one_key c.args.place.shards c.args.place.shard c.args.key.now mode c.if-not-has.ensures
