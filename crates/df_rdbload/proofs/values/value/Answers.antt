use Rattle.std.proofs.Common.{length, refl, ap}
use Rattle.df_model.specs.Values as plain
use Rattle.df_rdbcore.specs.Texts.{IsText}
use Rattle.df_rdbcore.specs.Parts.{Both, IsValue}
use Rattle.df_values.specs.declared.value.Value.TheVariants as values
use Rattle.df_rdbload.specs.Stops.{ElementsStop, ValueStops}
use Rattle.df_rdbload.specs.Entries.{IsHeld}
use Rattle.df_rdbload.proofs.Steps.{err_is, reads_stop, reads_stops, reads_join, reads_as}
use Rattle.df_rdbload.proofs.ValueLaws.{counted_of, count_stops, is_four, some_of}
use Rattle.df_rdbload.proofs.values.value.Goals as goal

pub returns-then-kind-eq0 : goal.returns-then-kind-eq0
returns-then-kind-eq0 g c = reads_as (IsHeld c.args.kind) (ValueStops c.args.kind c.args.begin) (values.Str c.from_bin.result) c.in_ok-text.ensures
    (λ form is. IsValue.Str c.in_ok-text.text c.if-kind-eq0.true is (ap plain.Value.Str c.from_bin.ensures))

pub returns-in_err-text : goal.returns-in_err-text
returns-in_err-text g c = reads_stop (IsHeld c.args.kind) (ValueStops c.args.kind c.args.begin) _ (err_is _ c.in_err-text.field-0.0 c.from_residual.ensures.1) c.in_err-text.ensures (λ size at rest f place h. ValueStops.Str c.if-kind-eq0.true h)

pub returns-in_err-many : goal.returns-in_err-many
returns-in_err-many g c = reads_stop (IsHeld c.args.kind) (ValueStops c.args.kind c.args.begin) _ (err_is _ c.in_err-many.field-0.0 c.from_residual-in_err-many.ensures.1) c.in_err-many.ensures (λ size at rest f place h. count_stops c.args.kind c.args.begin size at rest f c.requires c.if-kind-eq0.false h)

pub returns-in_err-list : goal.returns-in_err-list
returns-in_err-list g c = reads_stops (IsHeld c.args.kind) (ValueStops c.args.kind c.args.begin) _ (err_is _ c.in_err-list.field-0.0 c.from_residual-in_err-list.ensures.1) c.in_ok-many.ensures c.in_err-list.ensures
    (λ size at rest form behind f place is whole h. ValueStops.Elements c.if-kind-eq1.true (ElementsStop.Element form behind c.in_ok-many.many is.0 whole h))

pub returns-then-kind-eq1 : goal.returns-then-kind-eq1
returns-then-kind-eq1 g c =
    let items = c.in_ok-list.list.items in
    reads_join (IsHeld c.args.kind) (ValueStops c.args.kind c.args.begin) (values.List c.in_ok-list.list) c.in_ok-many.ensures c.in_ok-list.ensures
    (λ form more p q. IsValue.Elements items c.if-kind-eq1.true (counted_of IsText form more c.in_ok-many.many items p.0 q.0 q.1) (some_of c.in_ok-many.many (length items) p.1 q.1) refl)

pub returns-in_err-set : goal.returns-in_err-set
returns-in_err-set g c = reads_stops (IsHeld c.args.kind) (ValueStops c.args.kind c.args.begin) _ (err_is _ c.in_err-set.field-0.0 c.from_residual-in_err-set.ensures.1) c.in_ok-many.ensures c.in_err-set.ensures
    (λ size at rest form behind f place is whole h. ValueStops.Set c.if-kind-eq2.true (ElementsStop.Element form behind c.in_ok-many.many is.0 whole h))

pub returns-then-kind-eq2 : goal.returns-then-kind-eq2
returns-then-kind-eq2 g c =
    reads_join (IsHeld c.args.kind) (ValueStops c.args.kind c.args.begin) (values.Set c.in_ok-set.set) c.in_ok-many.ensures c.in_ok-set.ensures
    (λ form more p q. IsValue.Set q.0 c.if-kind-eq2.true (counted_of IsText form more c.in_ok-many.many q.0 p.0 q.1 q.2) (some_of c.in_ok-many.many (length q.0) p.1 q.2) q.3 (ap plain.Value.Set q.4))

pub returns-in_err-hash : goal.returns-in_err-hash
returns-in_err-hash g c = reads_stops (IsHeld c.args.kind) (ValueStops c.args.kind c.args.begin) _ (err_is _ c.in_err-hash.field-0.0 c.from_residual-in_err-hash.ensures.1) c.in_ok-many.ensures c.in_err-hash.ensures
    (λ size at rest form behind f place is whole h. ValueStops.Hash (is_four c.args.kind c.requires c.if-kind-eq0.false c.if-kind-eq1.false c.if-kind-eq2.false) (ElementsStop.Element form behind c.in_ok-many.many is.0 whole h))

pub returns : goal.returns
returns g c =
    reads_join (IsHeld c.args.kind) (ValueStops c.args.kind c.args.begin) (values.Hash c.in_ok-hash.hash) c.in_ok-many.ensures c.in_ok-hash.ensures
    (λ form more p q. IsValue.Hash q.0 (is_four c.args.kind c.requires c.if-kind-eq0.false c.if-kind-eq1.false c.if-kind-eq2.false) (counted_of (Both IsText IsText) form more c.in_ok-many.many q.0 p.0 q.1 q.2) (some_of c.in_ok-many.many (length q.0) p.1 q.2) q.3 (ap plain.Value.Hash q.4))
