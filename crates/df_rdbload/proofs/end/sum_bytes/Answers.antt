use Rattle.std.proofs.Common.{◌∙◌, ◌+◌, refl, arith}
use Rattle.std.proofs.Math.ListN.{set}
use Rattle.df_rdbload.specs.Entries.{AreEight, EightStop}
use Rattle.df_rdbload.proofs.Steps.{err_is, reads_none, reads_as, reads_join, reads_stops}
use Rattle.df_rdbload.proofs.SourceLaws.{Never}
use Rattle.df_rdbload.proofs.HeadLaws.{take_whole}
use Rattle.df_rdbload.proofs.EndLaws.{FirstOf, first_more, eight_stops}
use Rattle.df_rdbload.proofs.end.sum_bytes.Goals as goal

pub bytes-init : goal.bytes-init
bytes-init g c = reads_none (FirstOf 0) Never _ (refl, refl)

pub bytes-preserved : goal.bytes-preserved
bytes-preserved g c = reads_join (FirstOf (c.bytes.at + 1)) Never (set c.bytes.bytes c.bytes.at c.in_ok-byte.byte) c.bytes.invariant c.in_ok-byte.ensures.reads (λ form more p q. first_more c.bytes.at c.in_ok-byte.byte form more c.bytes.bytes (omega arith) p q)

pub returns-in_err-byte : goal.returns-in_err-byte
returns-in_err-byte g c = reads_stops AreEight EightStop _ (err_is _ c.in_err-byte.field-0.0 c.from_residual.ensures.1) c.bytes.invariant c.in_err-byte.ensures.reads (eight_stops c.bytes.at c.bytes.bytes c.args.source.now (omega arith))

pub returns : goal.returns
returns g c = reads_as AreEight EightStop c.bytes.bytes c.bytes.invariant (λ form p. (p.0 ∙ take_whole c.bytes.at c.bytes.bytes (omega (arith, p.1)), p.1))
