use Rattle.std.proofs.Common.{arith, sym, refl}
use Rattle.std.proofs.lemmas.List.{append-nil}
use Rattle.std.proofs.Math.Seq.{take-length}
use Rattle.df_outside.proofs.mem_sink.MemSinkSink.write.Goals as goal
use Rattle.df_outside.proofs.mem_sink.MemSinkSink.write.Goals.{in-Ok, in-Err}

pub returns-clause-writes : goal.returns-clause-writes
returns-clause-writes c =
    let plan = c.if-fails_now.ensures.counted in
    elim c.match-extend_from_slice.branch [
      | in-Ok w ↦ rw (w.result-is, ← c.self.view_is, plan, w.in-Ok.ensures.items, take-length) (c.requires, omega arith, refl, omega arith)
      | in-Err w ↦ rw (w.result-is, ← c.self.view_is, plan, w.in-Err.ensures.items) (sym (append-nil _), omega arith)
    ]
