use Rattle.std.proofs.Common.{◌≡◌, pos, ap, ◌∙◌, sym, arith}
use Rattle.std.proofs.lemmas.Int.{ints}
use Rattle.df_model.specs.Meaning.Lists.{without}
use Rattle.df_list.proofs.TurnLaws.{without_all}
use Rattle.df_list.proofs.removal.remove_equal.Goals as goal

pub returns-then-count-eq0-clause-items : goal.returns-then-count-eq0-clause-items
returns-then-count-eq0-clause-items c =
    let none : c.args.count ≡ pos 0 = omega (arith, ints) in
    c.remove_first.ensures.items ∙ without_all _ c.args.element.now c.args.queue.now.items (omega arith) ∙ ap (λ z. without z c.args.element.now c.args.queue.now.items) (sym none)
