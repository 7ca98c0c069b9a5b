use Rattle.std.proofs.Common.{◌≡◌, ◌+◌, [], Some, None, refl, sym, ap, ◌∙◌, arith, rules}
use Rattle.df_lists.specs.Places.{place_of}
use Rattle.df_lists.proofs.RangeLaws.{some_long}
use Rattle.df_lists.proofs.ResizeLaws.{keeps}
use Rattle.df_lists.proofs.PlaceLaws.{insert_gives, insert_no_row}
use Rattle.df_lists.proofs.place_in.linsert.Goals as goal

pub returns-in_default-clause-ok : goal.returns-in_default-clause-ok
returns-in_default-clause-ok c =
    let xs = c.args.list.now.items in
    let some : xs ≡ [] → ⊥ = search rules in
    let none : place_of c.args.pivot.now xs ≡ None = sym c.position.ensures.place ∙ c.in_default.is in
    keeps _ _ _ c.put_int.new.self _ (insert_no_row c.args.beside c.args.pivot.now c.args.element xs (some_long xs some) none)
    c.in_ok-put_int.ensures refl

pub returns-clause-ok : goal.returns-clause-ok
returns-clause-ok c =
    let xs = c.args.list.now.items in
    let found : place_of c.args.pivot.now xs ≡ Some c.in-Some.at = sym c.position.ensures.place ∙ c.in-Some.is in
    insert_gives c.args.beside c.args.pivot.now c.args.element xs c.reserve.new.self c.in-Some.at c.place_beside.result c.in_ok-after.after c.put_count-2.new.self _
    c.reserve.ensures.items found (search rules) (omega (arith, c.in_ok-reserve.ensures.ok)) (c.in_ok-after.ensures ∙ ap (λ n. n + 1) c.len.ensures)
    c.place_beside.ensures c.in_ok-put_count-2.ensures refl
