use Rattle.std.proofs.Common.{false, inl, inr}
use Rattle.df_rdbload.specs.Entries.{VersionRead, VersionStops}
use Rattle.df_rdbload.proofs.Steps.{err_is, reads_as, reads_join, reads_stop, reads_stops}
use Rattle.df_rdbload.proofs.SourceLaws.{Never}
use Rattle.df_rdbload.proofs.HeadLaws.{zeros_stop, zeros_other, AreTens, tens_on, tens_stop, tens_other, ones_stop, version_read}
use Rattle.df_rdbload.proofs.ValueLaws.{at_true, at_false}
use Rattle.df_rdbload.proofs.head.version.Goals as goal

pub returns-in_err-is_zeros : goal.returns-in_err-is_zeros
returns-in_err-is_zeros g c = reads_stop VersionRead VersionStops _ (err_is _ c.in_err-is_zeros.field-0.0 c.from_residual.ensures.1) c.in_err-is_zeros.ensures (λ size at rest f place h. zeros_stop size at rest f h)

pub returns-then-not-is_zeros : goal.returns-then-not-is_zeros
returns-then-not-is_zeros g c = reads_as VersionRead VersionStops false (rw c.if-not-is_zeros.true at c.in_ok-is_zeros.ensures) (λ form no. zeros_other form no)

pub returns-in_err-tens : goal.returns-in_err-tens
returns-in_err-tens g c = reads_stops VersionRead VersionStops _ (err_is _ c.in_err-tens.field-0.0 c.from_residual-in_err-tens.ensures.1) (rw c.if-not-is_zeros.false at c.in_ok-is_zeros.ensures) c.in_err-tens.ensures.reads (tens_stop c.args.source.now)

pub returns-then-not-is_tens : goal.returns-then-not-is_tens
returns-then-not-is_tens g c =
    let isnt = at_false _ _ c.if-not-is_tens.true c.is_tens.ensures.no in
    reads_join VersionRead VersionStops false (rw c.if-not-is_zeros.false at c.in_ok-is_zeros.ensures) c.in_ok-tens.ensures.reads
    (λ form more p q. tens_other c.in_ok-tens.tens form more (λ e. isnt (inl e)) (λ e. isnt (inr e)) p q)

pub returns-in_err-ones : goal.returns-in_err-ones
returns-in_err-ones g c =
    reads_stops VersionRead VersionStops _ (err_is _ c.in_err-ones.field-0.0 c.from_residual-in_err-ones.ensures.1)
    (reads_join (AreTens c.in_ok-tens.tens) Never c.in_ok-tens.tens (rw c.if-not-is_zeros.false at c.in_ok-is_zeros.ensures) c.in_ok-tens.ensures.reads (tens_on c.in_ok-tens.tens))
    c.in_err-ones.ensures.reads (ones_stop c.in_ok-tens.tens c.args.source.now (at_true _ _ c.if-not-is_tens.false c.is_tens.ensures.yes))

pub is_read-requires : goal.is_read-requires
is_read-requires g c = at_true _ _ c.if-not-is_tens.false c.is_tens.ensures.yes

pub returns : goal.returns
returns g c =
    reads_join VersionRead VersionStops c.is_read.result
    (reads_join (AreTens c.in_ok-tens.tens) Never c.in_ok-tens.tens (rw c.if-not-is_zeros.false at c.in_ok-is_zeros.ensures) c.in_ok-tens.ensures.reads (tens_on c.in_ok-tens.tens))
    c.in_ok-ones.ensures.reads (λ form more p q. version_read c.in_ok-tens.tens c.in_ok-ones.ones c.is_read.result form more c.is_read.ensures p q)
