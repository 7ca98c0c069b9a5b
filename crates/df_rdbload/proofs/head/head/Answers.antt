use Rattle.std.proofs.Common.{◌∙◌, ◌++◌, false, refl, ap, append_assoc}
use Rattle.df_rdbcore.specs.declared.fault.LoadFault.TheVariants as faults
use Rattle.df_rdbload.specs.FileStops.{HeadStops}
use Rattle.df_rdbload.specs.Entries.{HeadRead}
use Rattle.df_rdbload.proofs.Steps.{err_is, reads_join, reads_stop, reads_stops, reads_refuse}
use Rattle.df_rdbload.proofs.SourceLaws.{Never}
use Rattle.df_rdbload.proofs.HeadLaws.{MagicVersion, magic_stops, magic_other, version_stops, version_other, head_read}
use Rattle.df_rdbload.proofs.head.head.Goals as goal

pub returns-in_err-is_magic : goal.returns-in_err-is_magic
returns-in_err-is_magic g c = reads_stop HeadRead HeadStops _ (err_is _ c.in_err-is_magic.field-0.0 c.from_residual.ensures.1) c.in_err-is_magic.ensures (λ size at rest f place h. magic_stops size at rest f h)

pub returns-then-not-is_magic : goal.returns-then-not-is_magic
returns-then-not-is_magic g c = reads_refuse HeadRead HeadStops faults.BadMagic tt (rw c.if-not-is_magic.true at c.in_ok-is_magic.ensures) (λ size at rest form behind place is whole. magic_other size at rest form behind is whole)

pub returns-in_err-is_version : goal.returns-in_err-is_version
returns-in_err-is_version g c = reads_stops HeadRead HeadStops _ (err_is _ c.in_err-is_version.field-0.0 c.from_residual-in_err-is_version.ensures.1) (rw c.if-not-is_magic.false at c.in_ok-is_magic.ensures) c.in_err-is_version.ensures (version_stops c.args.source.now)

pub returns : goal.returns
returns g c = reads_join HeadRead HeadStops tt (rw c.if-not-is_magic.false at c.in_ok-is_magic.ensures) (rw c.if-not-is_version.false at c.in_ok-is_version.ensures) (λ form more p q. head_read form more p q)

pub returns-then-not-is_version : goal.returns-then-not-is_version
returns-then-not-is_version g c =
    reads_refuse HeadRead HeadStops faults.BadVersion tt
    (reads_join MagicVersion Never false (rw c.if-not-is_magic.false at c.in_ok-is_magic.ensures) (rw c.if-not-is_version.true at c.in_ok-is_version.ensures) (λ form more p q. (form, more, p, q, refl)))
    (λ size at rest form behind place is whole. version_other size at rest is.0 (is.1 ++ behind) is.2 is.1 behind is.3 refl (whole ∙ ap (λ z. z ++ behind) is.4 ∙ append_assoc is.0 is.1 behind))
