use Rattle.std.proofs.Common.{◌≡◌, ◌∙◌, [], ◌∷◌, ◌++◌, refl, sym, ap, subst, arith, length-append, true, false}
use Rattle.std.specs.Prelude.{is_some}
use Rattle.std.specs.FinMap as fin
use Rattle.df_rdbcore.specs.Texts.{IsText}
use Rattle.df_rdbcore.specs.Parts.{Both, InTurn, NoneTwice, firsts, fields_of}
use Rattle.df_rdbcore.specs.declared.fault.LoadFault.TheVariants as faults
use Rattle.df_rdbcore.specs.declared.fault.Twice.TheVariants as twice
use Rattle.df_rdbload.specs.Stops.{PairStops, Midway}
use Rattle.df_rdbload.specs.Entries.{AreFields}
use Rattle.df_rdbload.proofs.Steps.{err_is, goes_on, reads_none, reads_as, reads_join, reads_stops, reads_refuse, reads_no_memory}
use Rattle.df_rdbload.proofs.SourceLaws.{Never}
use Rattle.df_rdbload.proofs.KeyLaws.{in_turn_push, once_push, firsts_push, field_again, field_new, field_pushed}
use Rattle.df_rdbload.proofs.values.fields.Goals as goal

pub fields-init : goal.fields-init
fields-init g c = record {
  pairs = [];
  read = reads_none (InTurn (Both IsText IsText)) Never [] refl;
  count = refl;
  once = tt;
  fields = c.new-hash.ensures;
}

pub fields-preserved : goal.fields-preserved
fields-preserved g c =
    let pairs = c.fields.invariant.pairs in
    let field = c.in_ok-field.field in
    let held = c.in_ok-held.held in
    let new : is_some (fin.get (fields_of pairs) field) ≡ false = ap (λ m. is_some (fin.get m field)) (sym c.fields.invariant.fields) ∙ sym c.has_field.ensures ∙ c.if-has_field.false in
    let long = length-append pairs ((field, held) ∷ []) in
    let before = c.fields.invariant.count in
    record {
      pairs = pairs ++ (field, held) ∷ [];
      read = reads_join (InTurn (Both IsText IsText)) Never (pairs ++ (field, held) ∷ []) c.fields.invariant.read
          (reads_join (Both IsText IsText) Never (field, held) c.in_ok-field.ensures c.in_ok-held.ensures (λ form more p q. record { first = form; rest = more; first_is = p; rest_is = q; whole = refl }))
          (λ form more p q. in_turn_push (Both IsText IsText) form more pairs (field, held) p q);
      count = omega (arith, long, before);
      once = subst NoneTwice (sym (firsts_push pairs (field, held))) (once_push (firsts pairs) field c.fields.invariant.once (field_new pairs field new));
      fields = c.put-old.ensures.fields ∙ ap (λ m. fin.insert m field held) (c.reserve.ensures.fields ∙ c.fields.invariant.fields) ∙ field_pushed pairs field held new;
    }

pub returns-in_err-field : goal.returns-in_err-field
returns-in_err-field g c =
    let before = c.fields.invariant.count in
    reads_stops (AreFields c.args.count) (Midway (Both IsText IsText) (λ read. NoneTwice (firsts read)) (PairStops c.args.begin) c.args.count) _ (err_is _ c.in_err-field.field-0.0 c.from_residual.ensures.1) c.fields.invariant.read c.in_err-field.ensures
    (λ size at rest form behind f place is whole h. record { read = c.fields.invariant.pairs; front = form; behind = behind; read_are = is; fine = c.fields.invariant.once; few = omega (arith, before); whole = whole; stops = PairStops.Field h })

pub returns-then-has_field : goal.returns-then-has_field
returns-then-has_field g c =
    let pairs = c.fields.invariant.pairs in
    let field = c.in_ok-field.field in
    let again : is_some (fin.get (fields_of pairs) field) ≡ true = ap (λ m. is_some (fin.get m field)) (sym c.fields.invariant.fields) ∙ sym c.has_field.ensures ∙ c.if-has_field.true in
    let before = c.fields.invariant.count in
    reads_stops (AreFields c.args.count) (Midway (Both IsText IsText) (λ read. NoneTwice (firsts read)) (PairStops c.args.begin) c.args.count) _ refl c.fields.invariant.read
    (reads_refuse (Both IsText IsText) (PairStops c.args.begin pairs) (faults.Duplicate twice.Field c.args.begin) tt c.in_ok-field.ensures
    (λ size at rest form behind place is whole. PairStops.Again (record { form = form; behind = behind; text = field; form_is = is; whole = whole; known = field_again pairs field again }) refl))
    (λ size at rest form behind f place is whole h. record { read = pairs; front = form; behind = behind; read_are = is; fine = c.fields.invariant.once; few = omega (arith, before); whole = whole; stops = h })

pub returns-in_err-held : goal.returns-in_err-held
returns-in_err-held g c =
    let pairs = c.fields.invariant.pairs in
    let field = c.in_ok-field.field in
    let new : is_some (fin.get (fields_of pairs) field) ≡ false = ap (λ m. is_some (fin.get m field)) (sym c.fields.invariant.fields) ∙ sym c.has_field.ensures ∙ c.if-has_field.false in
    let before = c.fields.invariant.count in
    reads_stops (AreFields c.args.count) (Midway (Both IsText IsText) (λ read. NoneTwice (firsts read)) (PairStops c.args.begin) c.args.count) _ (err_is _ c.in_err-held.field-0.0 c.from_residual-in_err-held.ensures.1) c.fields.invariant.read
    (reads_stops (Both IsText IsText) (PairStops c.args.begin pairs) _ refl c.in_ok-field.ensures c.in_err-held.ensures (λ size at rest form behind f place is whole h. PairStops.Held form behind field is (field_new pairs field new) whole h))
    (λ size at rest form behind f place is whole h. record { read = pairs; front = form; behind = behind; read_are = is; fine = c.fields.invariant.once; few = omega (arith, before); whole = whole; stops = h })

pub returns-then-is_err : goal.returns-then-is_err
returns-then-is_err g c = reads_no_memory (AreFields c.args.count) (Midway (Both IsText IsText) (λ read. NoneTwice (firsts read)) (PairStops c.args.begin) c.args.count) (goes_on c.fields.invariant.read.goes (goes_on c.in_ok-field.ensures.goes c.in_ok-held.ensures.goes))

pub returns : goal.returns
returns g c =
    let before = c.fields.invariant.count in
    reads_as (AreFields c.args.count) (Midway (Both IsText IsText) (λ read. NoneTwice (firsts read)) (PairStops c.args.begin) c.args.count) c.fields.hash c.fields.invariant.read
    (λ form is. (c.fields.invariant.pairs, is, omega (arith, before), c.fields.invariant.once, c.fields.invariant.fields))
