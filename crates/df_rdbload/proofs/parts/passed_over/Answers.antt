use Rattle.std.proofs.Common.{◌∷◌, ◌++◌, refl, ap}
use Rattle.df_rdbcore.specs.Parts.{IsPart}
use Rattle.df_rdbload.specs.Stops.{BothStops}
use Rattle.df_rdbload.specs.FileStops.{PassedStops}
use Rattle.df_rdbload.specs.Entries.{PassedRead}
use Rattle.df_rdbload.proofs.Steps.{err_is, reads_none, reads_as, reads_join, reads_stop, reads_stops, reads_refuse}
use Rattle.df_rdbload.proofs.SourceLaws.{IsNothing, Never}
use Rattle.df_rdbload.proofs.ValueLaws.{refuses, refuses_caused, no_mark}
use Rattle.df_rdbload.proofs.parts.passed_over.Goals as goal

pub returns-in_err-_name : goal.returns-in_err-_name
returns-in_err-_name g c = reads_stop (PassedRead c.args.first) (PassedStops c.args.first c.args.begin) _ (err_is _ c.in_err-_name.field-0.0 c.from_residual.ensures.1) c.in_err-_name.ensures (λ size at rest f place h. PassedStops.Auxiliary c.if-first-eq250.true (BothStops.First h))

pub returns-in_err-_said : goal.returns-in_err-_said
returns-in_err-_said g c = reads_stops (PassedRead c.args.first) (PassedStops c.args.first c.args.begin) _ (err_is _ c.in_err-_said.field-0.0 c.from_residual-in_err-_said.ensures.1) c.in_ok-_name.ensures c.in_err-_said.ensures
    (λ size at rest form behind f place is whole h. PassedStops.Auxiliary c.if-first-eq250.true (BothStops.Other form behind c.in_ok-_name._name is whole h))

pub returns-then-first-eq250 : goal.returns-then-first-eq250
returns-then-first-eq250 g c = reads_join (PassedRead c.args.first) (PassedStops c.args.first c.args.begin) tt c.in_ok-_name.ensures c.in_ok-_said.ensures
    (λ form more p q. IsPart.Auxiliary (form ++ more) (c.in_ok-_name._name, c.in_ok-_said._said) (record { first = form; rest = more; first_is = p; rest_is = q; whole = refl }) (ap (λ b. b ∷ (form ++ more)) c.if-first-eq250.true) refl)

pub returns-in_err-_keys : goal.returns-in_err-_keys
returns-in_err-_keys g c = reads_stop (PassedRead c.args.first) (PassedStops c.args.first c.args.begin) _ (err_is _ c.in_err-_keys.field-0.0 c.from_residual-in_err-_keys.ensures.1) c.in_err-_keys.ensures (λ size at rest f place h. PassedStops.Sizes c.if-first-eq251.true (BothStops.First h))

pub returns-in_err-_expiring : goal.returns-in_err-_expiring
returns-in_err-_expiring g c = reads_stops (PassedRead c.args.first) (PassedStops c.args.first c.args.begin) _ (err_is _ c.in_err-_expiring.field-0.0 c.from_residual-in_err-_expiring.ensures.1) c.in_ok-_keys.ensures c.in_err-_expiring.ensures
    (λ size at rest form behind f place is whole h. PassedStops.Sizes c.if-first-eq251.true (BothStops.Other form behind c.in_ok-_keys._keys is whole h))

pub returns-then-first-eq251 : goal.returns-then-first-eq251
returns-then-first-eq251 g c = reads_join (PassedRead c.args.first) (PassedStops c.args.first c.args.begin) tt c.in_ok-_keys.ensures c.in_ok-_expiring.ensures
    (λ form more p q. IsPart.Sizes (form ++ more) (c.in_ok-_keys._keys, c.in_ok-_expiring._expiring) (record { first = form; rest = more; first_is = p; rest_is = q; whole = refl }) (ap (λ b. b ∷ (form ++ more)) c.if-first-eq251.true) refl)

pub returns-in_err-database : goal.returns-in_err-database
returns-in_err-database g c = reads_stop (PassedRead c.args.first) (PassedStops c.args.first c.args.begin) _ (err_is _ c.in_err-database.field-0.0 c.from_residual-in_err-database.ensures.1) c.in_err-database.ensures (λ size at rest f place h. PassedStops.Database c.if-first-eq254.true h)

pub returns-then-first-eq254 : goal.returns-then-first-eq254
returns-then-first-eq254 g c = reads_as (PassedRead c.args.first) (PassedStops c.args.first c.args.begin) tt c.in_ok-database.ensures (λ form is. IsPart.Database form is (ap (λ b. b ∷ form) c.if-first-eq254.true) refl)

pub returns : goal.returns
returns g c =
    reads_refuse (PassedRead c.args.first) (PassedStops c.args.first c.args.begin) c.refused.result (refuses_caused c.args.first c.args.begin _ _ c.refused.result c.refused.ensures) (reads_none IsNothing Never tt refl)
    (λ size at rest form behind place is whole. refuses c.args.first c.args.begin size at rest c.refused.result c.requires.no_key (no_mark c.args.first c.if-first-eq250.false c.if-first-eq251.false c.if-first-eq254.false c.requires.no_end) c.refused.ensures)
