use Rattle.std.proofs.Common.{◌≤◌, sym, ap, subst, arith}
use Rattle.df_intents.specs.Kept.{Kept}
use Rattle.df_intents.proofs.KeptLaws.{asks_released, kept_released}
use Rattle.df_intents.proofs.intents.Intents.release.Goals as goal

pub invariant_of-self : goal.invariant_of-self
invariant_of-self c =
    let inside = c.self.inside in
    let fs = c.remove.new.self.entries in
    subst (Kept fs c.leave.new.self) (sym c.release.ensures)
    (kept_released inside.holders.entries fs inside.index c.leave.new.self inside.trail.holders c.args.number c.in-Some.keys c.self.invariant (sym c.in-Some.ensures.value) c.in-Some.ensures.updates.0 c.in-Some.ensures.len c.leave.ensures.counts)

pub returns-clause-spare : goal.returns-clause-spare
returns-clause-spare c =
    let inside = c.self.inside in
    let fewer : c.leave.new.self.asks.any ≤ inside.index.asks.any =
    asks_released inside.holders.entries c.remove.new.self.entries inside.index c.leave.new.self inside.trail.holders c.args.number c.in-Some.keys c.self.invariant (sym c.in-Some.ensures.value) c.leave.ensures.counts in
    let spare = ap (λ v. v.spare) c.self.view_is in
    omega (arith, fewer, spare, c.in-Some.ensures.spare, c.leave.ensures.spare)
