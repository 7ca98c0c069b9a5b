use Rattle.std.proofs.Common.{◌≡◌, ◌+◌, drop, [], ◌∷◌, sym, ◌∙◌, ap, arith, drop-cons, get_or, suc}
use Rattle.std.proofs.lemmas.Grind.{common_steps}
use Rattle.df_resp.specs.Scan.{fixed}
use Rattle.df_resp.proofs.front.fixed_at.Goals as goal

pub returns-then-from-i : goal.returns-then-from-i
returns-then-from-i c =
    let none : drop (c.args.from + c.text.i) c.args.bytes.now ≡ [] = grind (arith, common_steps) in
    let text : drop c.text.i c.args.text.now ≡ get_or c.args.text.now c.text.i 0 ∷ drop (suc c.text.i) c.args.text.now = drop-cons c.args.text.now c.text.i 0 (omega arith) in
    sym c.text.invariant.left ∙ ap (λ x. fixed c.args.kind (drop c.text.i c.args.text.now) x) none ∙ ap (λ x. fixed c.args.kind x []) text
