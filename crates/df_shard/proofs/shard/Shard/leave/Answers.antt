use Rattle.std.proofs.Common.{◌∙◌, ap, sym, subst, List}
use Rattle.df_intents.specs.Holders as intents
use Rattle.df_txqueue.specs.declared.place.Place as at
use Rattle.df_shard.specs.Fields.{view_of}
use Rattle.df_shard.specs.Holds.{View, Holds, Wait, staged_at}
use Rattle.df_shard.specs.Changes.{left}
use Rattle.df_shard.proofs.Leaves.{leaves}
use Rattle.df_shard.proofs.shard.Shard.leave.Goals as goal

pub invariant_of-self : goal.invariant_of-self
invariant_of-self c =
    let x : View = view_of c.self.inside in
    subst (λ (v : List intents.Holder × List at.Place × List Wait). Holds (record x { holders = v.0; places = v.1; waiting = v.2 }))
    (λ j. (sym c.release.ensures j, sym c.remove-place.ensures.places j, sym c.forget.ensures j)) (leaves x c.args.number c.self.invariant (ap (λ (v : View). staged_at c.args.number v.waiting) c.self.view_is ∙ c.requires.bare))

pub returns : goal.returns
returns c =
    let x : View = view_of c.self.inside in
    (λ j. record x { holders = c.release.ensures j; places = c.remove-place.ensures.places j; waiting = c.forget.ensures j })
    ∙ ap (λ (v : View). left v c.args.number) c.self.view_is
