use Rattle.std.proofs.Common.{refl, subst, arith}
use Rattle.df_rdbcore.specs.Texts.{IsLength}
use Rattle.df_rdbcore.specs.declared.fault.LoadFault.TheVariants as faults
use Rattle.df_rdbcore.specs.declared.fault.PartFault.TheVariants as part
use Rattle.df_rdbload.specs.Stops.{CountStops}
use Rattle.df_rdbload.specs.Entries.{IsCount}
use Rattle.df_rdbload.proofs.Steps.{err_is, reads_stop, reads_refuse, reads_as}
use Rattle.df_rdbload.proofs.values.count.Goals as goal

pub returns-in_err-count : goal.returns-in_err-count
returns-in_err-count g c = reads_stop IsCount (CountStops c.args.begin) _ (err_is _ c.in_err-count.field-0.0 c.from_residual.ensures.1) c.in_err-count.ensures (λ size at rest f place h. CountStops.Count h)

pub returns-then-count-eq0 : goal.returns-then-count-eq0
returns-then-count-eq0 g c = reads_refuse IsCount (CountStops c.args.begin) (faults.BadPart part.Empty c.args.begin) tt c.in_ok-count.ensures (λ size at rest form behind place is whole. CountStops.Empty form behind (subst (IsLength form) c.if-count-eq0.true is) whole refl)

pub returns : goal.returns
returns g c = reads_as IsCount (CountStops c.args.begin) c.in_ok-count.count c.in_ok-count.ensures (λ form is. (is, omega arith))
