use Rattle.std.proofs.Common.{◌+◌, true, false, refl, arith}
use Rattle.df_rdbload.specs.Entries.{IsLiteral, LiteralStops}
use Rattle.df_rdbload.proofs.Steps.{err_is, reads_none, reads_as, reads_join, reads_stops}
use Rattle.df_rdbload.proofs.SourceLaws.{Never}
use Rattle.df_rdbload.proofs.HeadLaws.{IsFront, literal_on, literal_other, literal_whole, literal_stops}
use Rattle.df_rdbload.proofs.head.literal.Goals as goal

pub bytes-init : goal.bytes-init
bytes-init g c = reads_none (IsFront c.args.text.now) Never 0 refl

pub bytes-preserved : goal.bytes-preserved
bytes-preserved g c =
    reads_join (IsFront c.args.text.now) Never (c.bytes.byte-index + 1) c.bytes.invariant c.in_ok-there.ensures.reads
    (λ form more p q. literal_on c.args.text.now form more c.bytes.byte-index c.in_ok-there.there (omega arith) (omega arith) p q)

pub returns-in_err-there : goal.returns-in_err-there
returns-in_err-there g c =
    reads_stops (IsLiteral c.args.text.now) (LiteralStops c.args.text.now) _ (err_is _ c.in_err-there.field-0.0 c.from_residual.ensures.1) c.bytes.invariant c.in_err-there.ensures.reads (literal_stops c.args.text.now c.bytes.byte-index c.args.source.now (omega arith))

pub returns-then-there-byte : goal.returns-then-there-byte
returns-then-there-byte g c =
    reads_join (IsLiteral c.args.text.now) (LiteralStops c.args.text.now) false c.bytes.invariant c.in_ok-there.ensures.reads
    (λ form more p q. literal_other c.args.text.now form more c.bytes.byte-index c.in_ok-there.there (omega arith) c.if-there-byte.true p q)

pub returns : goal.returns
returns g c = reads_as (IsLiteral c.args.text.now) (LiteralStops c.args.text.now) true c.bytes.invariant (λ form p. literal_whole c.args.text.now form c.bytes.byte-index (omega arith) p)
