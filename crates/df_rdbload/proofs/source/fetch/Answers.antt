use Rattle.std.proofs.Common.{take, subst, sym}
use Rattle.df_outside.specs.Disks.{Holds, IsPast}
use Rattle.df_rdbload.specs.Sources.{IsCaused, Fetched}
use Rattle.df_rdbload.proofs.Steps.{err_is}
use Rattle.df_rdbload.proofs.DiskLaws.{told_where, told_kept, too_much, keep_caused, grows, stays_none, file_none}
use Rattle.df_rdbload.proofs.source.fetch.Goals as goal

pub returns-in_ok-keep-in-Took-clause-kept : goal.returns-in_ok-keep-in-Took-clause-kept
returns-in_ok-keep-in-Took-clause-kept g c = told_kept (λ o. Holds o c.args.next.now (take c.in-Took.n c.read.new.buf)) _ _ c.in-Took.ensures.2

pub returns-in_ok-keep-in-Took-clause-fetched : goal.returns-in_ok-keep-in-Took-clause-fetched
returns-in_ok-keep-in-Took-clause-fetched g c =
    let k = c.in_ok-keep-in-Took.ensures in
    grows c.in-Took.n c.read.new.buf _ _ c.args.cursor.now c.keep.new.cursor c.args.next.now c.keep.new.next c.in-Took.ensures.0 c.in-Took.ensures.1 c.in-Took.ensures.2 k.rest k.place k.sum k.next k.fits

pub returns-in_err-keep-in-Took-clause-kept : goal.returns-in_err-keep-in-Took-clause-kept
returns-in_err-keep-in-Took-clause-kept g c = told_kept (λ o. Holds o c.args.next.now (take c.in-Took.n c.read.new.buf)) _ _ c.in-Took.ensures.2

pub returns-in_err-keep-in-Took-clause-fetched : goal.returns-in_err-keep-in-Took-clause-fetched
returns-in_err-keep-in-Took-clause-fetched g c =
    let k = c.in_err-keep-in-Took.ensures in
    let fault = c.in_err-keep-in-Took.field-0.0 in
    subst (λ r. Fetched r (g.K.Disk.stored c.args.disk.now) c.args.cursor.now c.keep.new.cursor c.args.next.now c.keep.new.next) (sym (err_is _ fault c.from_residual.ensures.1)) (
      record { rest = k.err_rest; place = k.place; sum = k.sum; next_is = k.err_next },
      too_much fault (g.K.Disk.stored c.args.disk.now) c.args.next.now (take c.in-Took.n c.read.new.buf) (told_where (λ o. Holds o c.args.next.now (take c.in-Took.n c.read.new.buf)) _ _ c.in-Took.ensures.2) k.why,
    )

pub returns-in_err-keep-in-Took-clause-caused : goal.returns-in_err-keep-in-Took-clause-caused
returns-in_err-keep-in-Took-clause-caused g c =
    let fault = c.in_err-keep-in-Took.field-0.0 in
    subst (λ r. IsCaused r (g.K.Disk.faults c.args.disk.now) (g.K.Disk.faults c.read.new.self)) (sym (err_is _ fault c.from_residual.ensures.1)) (keep_caused fault _ _ _ c.in_err-keep-in-Took.ensures.why)

pub returns-in-End-clause-kept : goal.returns-in-End-clause-kept
returns-in-End-clause-kept g c = told_kept (λ o. IsPast o c.args.next.now) _ _ c.in-End.ensures.0

pub returns-in-End-clause-fetched : goal.returns-in-End-clause-fetched
returns-in-End-clause-fetched g c = (stays_none _ _, told_where (λ o. IsPast o c.args.next.now) _ _ c.in-End.ensures.0)

pub returns-in-Missing-clause-kept : goal.returns-in-Missing-clause-kept
returns-in-Missing-clause-kept g c = told_kept file_none _ _ c.in-Missing.ensures.0

pub returns-in-Missing-clause-fetched : goal.returns-in-Missing-clause-fetched
returns-in-Missing-clause-fetched g c = (stays_none _ _, told_where file_none _ _ c.in-Missing.ensures.0)

pub returns-in-Failed-clause-fetched : goal.returns-in-Failed-clause-fetched
returns-in-Failed-clause-fetched g c = (stays_none _ _, tt)

pub returns-in-NoMemory-clause-fetched : goal.returns-in-NoMemory-clause-fetched
returns-in-NoMemory-clause-fetched g c = (stays_none _ _, tt)
