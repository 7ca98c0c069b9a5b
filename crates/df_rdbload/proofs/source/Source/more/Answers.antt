use Rattle.std.proofs.Common.{true, false, refl, subst, sym, arith}
use Rattle.std.specs.Prelude.{Ok, Err}
use Rattle.df_rdbload.specs.Sources.{Stage, Reading}
use Rattle.df_rdbload.proofs.Steps.{err_is}
use Rattle.df_rdbload.proofs.DiskLaws.{more_kept, more_end, more_missing, more_ended, more_fails}
use Rattle.df_rdbload.proofs.source.Source.more.Goals as goal

pub returns-then-self : goal.returns-then-self
returns-then-self g c =
    let o : Stage = record { cursor = c.self.inside.cursor; next = c.self.inside.next; ended = c.self.inside.ended; missing = c.self.inside.missing } in
    subst (λ (z : Stage). Reading (Ok false) (g.K.Disk.stored c.args.disk.now) (g.K.Disk.stored c.args.disk.now) (g.K.Disk.faults c.args.disk.now) (g.K.Disk.faults c.args.disk.now) z z) c.self.view_is
    (more_ended (g.K.Disk.stored c.args.disk.now) (g.K.Disk.faults c.args.disk.now) o c.if-self.true (omega arith))

pub returns-in-Kept : goal.returns-in-Kept
returns-in-Kept g c =
    let o : Stage = record { cursor = c.self.inside.cursor; next = c.self.inside.next; ended = c.self.inside.ended; missing = c.self.inside.missing } in
    let new : Stage = record { cursor = c.fetch.new.cursor; next = c.fetch.new.next; ended = c.self.inside.ended; missing = c.self.inside.missing } in
    let grows = rw c.in-Kept.is at c.in_ok-fetch.ensures.fetched in
    subst (λ (z : Stage). Reading (Ok true) (g.K.Disk.stored c.args.disk.now) (g.K.Disk.stored c.fetch.new.disk) (g.K.Disk.faults c.args.disk.now) (g.K.Disk.faults c.fetch.new.disk) z new) c.self.view_is
    (more_kept grows.0 _ _ _ _ o new c.in_ok-fetch.ensures.kept c.in_ok-fetch.ensures.rises c.if-self.false refl refl grows.1)

pub returns-in-End : goal.returns-in-End
returns-in-End g c =
    let o : Stage = record { cursor = c.self.inside.cursor; next = c.self.inside.next; ended = c.self.inside.ended; missing = c.self.inside.missing } in
    let new : Stage = record { cursor = c.fetch.new.cursor; next = c.fetch.new.next; ended = true; missing = c.self.inside.missing } in
    let end = rw c.in-End.is at c.in_ok-fetch.ensures.fetched in
    subst (λ (z : Stage). Reading (Ok false) (g.K.Disk.stored c.args.disk.now) (g.K.Disk.stored c.fetch.new.disk) (g.K.Disk.faults c.args.disk.now) (g.K.Disk.faults c.fetch.new.disk) z new) c.self.view_is
    (more_end _ _ _ _ o new c.in_ok-fetch.ensures.kept c.in_ok-fetch.ensures.rises refl (omega arith) end.0 end.1)

pub returns-in-Missing : goal.returns-in-Missing
returns-in-Missing g c =
    let o : Stage = record { cursor = c.self.inside.cursor; next = c.self.inside.next; ended = c.self.inside.ended; missing = c.self.inside.missing } in
    let new : Stage = record { cursor = c.fetch.new.cursor; next = c.fetch.new.next; ended = true; missing = true } in
    let end = rw c.in-Missing.is at c.in_ok-fetch.ensures.fetched in
    subst (λ (z : Stage). Reading (Ok false) (g.K.Disk.stored c.args.disk.now) (g.K.Disk.stored c.fetch.new.disk) (g.K.Disk.faults c.args.disk.now) (g.K.Disk.faults c.fetch.new.disk) z new) c.self.view_is
    (more_missing _ _ _ _ o new c.in_ok-fetch.ensures.kept c.in_ok-fetch.ensures.rises refl end.0 end.1)

pub returns-in_err-fetch : goal.returns-in_err-fetch
returns-in_err-fetch g c =
    let fault = c.in_err-fetch.field-0.0 in
    let o : Stage = record { cursor = c.self.inside.cursor; next = c.self.inside.next; ended = c.self.inside.ended; missing = c.self.inside.missing } in
    let new : Stage = record { cursor = c.fetch.new.cursor; next = c.fetch.new.next; ended = c.self.inside.ended; missing = c.self.inside.missing } in
    let f = c.in_err-fetch.ensures in
    subst (λ r. Reading r (g.K.Disk.stored c.args.disk.now) (g.K.Disk.stored c.fetch.new.disk) (g.K.Disk.faults c.args.disk.now) (g.K.Disk.faults c.fetch.new.disk) c.args.self.now new) (sym (err_is _ fault c.from_residual.ensures.1))
    (subst (λ (z : Stage). Reading (Err fault) (g.K.Disk.stored c.args.disk.now) (g.K.Disk.stored c.fetch.new.disk) (g.K.Disk.faults c.args.disk.now) (g.K.Disk.faults c.fetch.new.disk) z new) c.self.view_is
    (more_fails fault _ _ _ _ o new f.kept f.rises f.caused refl f.fetched.0 f.fetched.1))
