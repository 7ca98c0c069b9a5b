use Rattle.std.proofs.Common.{ap, ◌∙◌}
use Rattle.df_footprints.specs.Asks.{clashes_with}
use Rattle.df_intents.specs.Counting.{for_all, held}
use Rattle.df_intents.proofs.intents.Intents.opposes_all.Goals as goal

pub returns : goal.returns
returns c =
    c.opposes_all.ensures (held c.self.inside.trail.holders) c.self.invariant.counted
    ∙ ap (λ v. clashes_with (for_all c.args.mode) (held v.holders)) c.self.view_is
