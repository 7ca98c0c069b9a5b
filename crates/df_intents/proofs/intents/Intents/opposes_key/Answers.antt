use Rattle.std.proofs.Common.{ap, ◌∙◌}
use Rattle.df_footprints.specs.Asks.{clashes_with}
use Rattle.df_intents.specs.Counting.{for_key, held}
use Rattle.df_intents.proofs.intents.Intents.opposes_key.Goals as goal

pub returns : goal.returns
returns c =
    c.opposes_key.ensures c.self.inside.trail.holders c.self.invariant.once c.self.invariant.known c.self.invariant.counted
    ∙ ap (λ v. clashes_with (for_key c.args.key.now c.args.mode) (held v.holders)) c.self.view_is
