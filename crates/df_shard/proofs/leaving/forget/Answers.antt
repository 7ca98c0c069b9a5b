use Rattle.std.proofs.Common.{rules, ap, ◌∙◌}
use Rattle.std.specs.Prelude.{map}
use Rattle.std.proofs.lemmas.Fn.{filter_same}
use Rattle.df_shard.specs.Holds.{wait_of}
use Rattle.df_shard.proofs.Leaves.{waiting-filtered}
use Rattle.df_shard.proofs.leaving.forget.Goals as goal

pub returns : goal.returns
returns c =
    ap (map wait_of) (filter_same _ _ _ (λ x b f' k. search rules) _ _ c.retain.ensures.filtered)
    ∙ waiting-filtered c.args.number c.args.waiting.now.items
