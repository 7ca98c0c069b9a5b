use Rattle.std.proofs.Common.{◌≤◌, arith, subst, sym, refl}
use Rattle.std.proofs.lemmas.List.{append-nil}
use Rattle.df_outside.specs.FaultPlans.{FaultPlan}
use Rattle.df_outside.proofs.mem_link.MemLinkLink.read.Goals as goal

pub returns-then-fails_now-clause-reads : goal.returns-then-fails_now-clause-reads
returns-then-fails_now-clause-reads c =
    let grows = subst (λ (p : FaultPlan). c.self.inside.reads.faults ≤ p.faults) c.if-fails_now.ensures.counted c.fails_now.ensures.grows in
    rw (← c.self.view_is, c.if-fails_now.ensures.counted) (
      record { taken = sym (append-nil _); written = refl; read_faults = grows; write_faults = refl; waits = omega arith; left = tt },
      record { before = c.if-self.false; now = c.if-self.false },
      omega arith,
    )
