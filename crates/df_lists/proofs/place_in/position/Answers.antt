use Rattle.std.proofs.Common.{◌≡◌, ◌+◌, true, false, drop, sym, ap, ◌∙◌, rules}
use Rattle.std.specs.Option.{option_copied}
use Rattle.df_model.specs.Words.{same}
use Rattle.df_lists.proofs.RangeLaws.{next_of}
use Rattle.df_lists.proofs.PlaceLaws.{here, not_here}
use Rattle.df_lists.proofs.place_in.position.Goals as goal

pub returns-then-eq-clause-place : goal.returns-then-eq-clause-place
returns-then-eq-clause-place c =
    let xs = c.args.list.now.items in
    let x = c.in-Some.element.now in
    let is : same x c.args.bytes.now ≡ true = search rules in
    here c.elements.at c.args.bytes.now x (drop c.elements.at xs) (drop (c.elements.at + 1) xs) _
    (next_of c.elements.at xs x (sym c.get.ensures ∙ ap option_copied c.in-Some.is)) is c.elements.invariant

pub elements-preserved : goal.elements-preserved
elements-preserved c =
    let xs = c.args.list.now.items in
    let x = c.in-Some.element.now in
    let is : same x c.args.bytes.now ≡ false = search rules in
    not_here c.elements.at c.args.bytes.now x (drop c.elements.at xs) (drop (c.elements.at + 1) xs) _
    (next_of c.elements.at xs x (sym c.get.ensures ∙ ap option_copied c.in-Some.is)) is c.elements.invariant
