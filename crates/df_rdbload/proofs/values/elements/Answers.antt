use Rattle.std.proofs.Common.{◌≡◌, ◌∙◌, [], ◌∷◌, ◌++◌, length, refl, sym, ap, subst, arith, length-append}
use Rattle.df_rdbcore.specs.Texts.{IsText}
use Rattle.df_rdbcore.specs.Parts.{InTurn}
use Rattle.df_rdbload.specs.Stops.{Any, ElementStops, Midway}
use Rattle.df_rdbload.specs.Entries.{AreElements}
use Rattle.df_rdbload.proofs.Steps.{err_is, goes_on, reads_none, reads_as, reads_join, reads_stops, reads_no_memory}
use Rattle.df_rdbload.proofs.SourceLaws.{Never}
use Rattle.df_rdbload.proofs.KeyLaws.{in_turn_push}
use Rattle.df_rdbload.proofs.values.elements.Goals as goal

pub elements-init : goal.elements-init
elements-init g c = record {
  read = reads_none (InTurn IsText) Never c.new-list.result.items (subst (InTurn IsText []) (sym c.new-list.ensures) refl);
  count = ap length c.new-list.ensures;
}

pub elements-preserved : goal.elements-preserved
elements-preserved g c =
    let items : c.push_back.new.self.items ≡ c.elements.list.items ++ c.in_ok-element.element ∷ [] = c.push_back.ensures.items ∙ ap (λ z. z ++ c.in_ok-element.element ∷ []) c.reserve.ensures.items in
    let long : length c.push_back.new.self.items ≡ length (c.elements.list.items ++ c.in_ok-element.element ∷ []) = ap length items in
    let both = length-append c.elements.list.items (c.in_ok-element.element ∷ []) in
    let before = c.elements.invariant.count in
    record {
      read = reads_join (InTurn IsText) Never c.push_back.new.self.items c.elements.invariant.read c.in_ok-element.ensures
          (λ form more p q. subst (InTurn IsText (form ++ more)) (sym items) (in_turn_push IsText form more c.elements.list.items c.in_ok-element.element p q));
      count = omega (arith, long, both, before);
    }

pub returns-in_err-element : goal.returns-in_err-element
returns-in_err-element g c =
    let before = c.elements.invariant.count in
    reads_stops (AreElements c.args.count) (Midway IsText Any ElementStops c.args.count) _ (err_is _ c.in_err-element.field-0.0 c.from_residual.ensures.1) c.elements.invariant.read c.in_err-element.ensures
    (λ size at rest form behind f place is whole h. record { read = c.elements.list.items; front = form; behind = behind; read_are = is; fine = tt; few = omega (arith, before); whole = whole; stops = h })

pub returns-then-is_err : goal.returns-then-is_err
returns-then-is_err g c = reads_no_memory (AreElements c.args.count) (Midway IsText Any ElementStops c.args.count) (goes_on c.elements.invariant.read.goes c.in_ok-element.ensures.goes)

pub returns : goal.returns
returns g c =
    let before = c.elements.invariant.count in
    reads_as (AreElements c.args.count) (Midway IsText Any ElementStops c.args.count) c.elements.list c.elements.invariant.read (λ form is. (is, omega (arith, before)))
