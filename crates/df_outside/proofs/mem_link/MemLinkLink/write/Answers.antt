use Rattle.std.proofs.Common.{◌≤◌, arith, subst, sym, refl}
use Rattle.std.proofs.lemmas.List.{append-nil}
use Rattle.df_outside.specs.FaultPlans.{FaultPlan}
use Rattle.df_outside.proofs.mem_link.MemLinkLink.write.Goals as goal

pub returns-then-fails_now-clause-writes : goal.returns-then-fails_now-clause-writes
returns-then-fails_now-clause-writes c =
    let grows = subst (λ (p : FaultPlan). c.self.inside.writes.faults ≤ p.faults) c.if-fails_now.ensures.counted c.fails_now.ensures.grows in
    rw (← c.self.view_is, c.if-fails_now.ensures.counted) (
      record { written = sym (append-nil _); taken = refl; ended = refl; read_faults = refl; write_faults = grows; waits = omega arith; left = refl },
      omega arith,
    )
