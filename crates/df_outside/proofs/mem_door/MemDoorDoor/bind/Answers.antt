use Rattle.std.proofs.Common.{◌≤◌, arith, subst, refl}
use Rattle.df_outside.specs.FaultPlans.{FaultPlan}
use Rattle.df_outside.proofs.mem_door.MemDoorDoor.bind.Goals as goal

pub returns-then-fails_now-clause-binds : goal.returns-then-fails_now-clause-binds
returns-then-fails_now-clause-binds g c =
    let grows = subst (λ (p : FaultPlan). c.self.inside.plan.faults ≤ p.faults) c.if-fails_now.ensures.counted c.fails_now.ensures.grows in
    rw (← c.self.view_is, c.if-fails_now.ensures.counted) (record { given = refl; shut = refl; faults = grows }, omega arith)
