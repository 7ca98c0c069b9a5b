use Rattle.std.proofs.Common.{refl, subst}
use Rattle.df_rdbcore.specs.Texts.{IsLength}
use Rattle.df_rdbcore.specs.declared.fault.LoadFault.TheVariants as faults
use Rattle.df_rdbload.specs.FileStops.{DatabaseStops}
use Rattle.df_rdbload.specs.Entries.{IsZero}
use Rattle.df_rdbload.proofs.Steps.{err_is, reads_as, reads_stop, reads_refuse}
use Rattle.df_rdbload.proofs.parts.database.Goals as goal

pub returns-in_err-number : goal.returns-in_err-number
returns-in_err-number g c = reads_stop IsZero (DatabaseStops c.args.begin) _ (err_is _ c.in_err-number.field-0.0 c.from_residual.ensures.1) c.in_err-number.ensures (λ size at rest f place h. DatabaseStops.Number h)

pub returns-then-number-ne0 : goal.returns-then-number-ne0
returns-then-number-ne0 g c = reads_refuse IsZero (DatabaseStops c.args.begin) (faults.Unsupported 0xFE c.args.begin) tt c.in_ok-number.ensures (λ size at rest form behind place is whole. DatabaseStops.Other form behind c.in_ok-number.number is whole c.if-number-ne0.true refl)

pub returns : goal.returns
returns g c = reads_as IsZero (DatabaseStops c.args.begin) tt c.in_ok-number.ensures (λ form is. subst (IsLength form) c.if-number-ne0.false is)
