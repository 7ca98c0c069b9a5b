use Rattle.std.proofs.Common.{[], ◌∷◌, reverse, ap, ◌∙◌, arith, rules}
use Rattle.std.proofs.lemmas.List.{reverse-append, length-reverse}
use mathlib.Core.List.{reverse-cons}
use Rattle.df_list.proofs.TurnLaws.{removed, passed, turned_back}
use Rattle.df_list.proofs.removal.remove_last.Goals as goal
use Rattle.df_list.proofs.removal.remove_last.Goals.{then-turn-test+else-left-gt0, else-turn-test}

pub turn-preserved-then-eq : goal.turn-preserved-then-eq
turn-preserved-then-eq c = record {
  items = removed _ _ _ _ _ _ (omega arith) (omega arith) (search rules) (ap reverse c.in-Some.ensures.items ∙ reverse-append c.pop_back.new.self.items (c.in-Some.last ∷ [])) ∙ c.turn.invariant.items;
  left = omega (arith, c.in-Some.ensures.cases);
  len = omega (arith, c.in-Some.ensures.cases);
  capacity = search rules;
}

pub turn-preserved-else-eq : goal.turn-preserved-else-eq
turn-preserved-else-eq c = record {
  items = passed _ _ _ _ _ _ _ (omega arith) (omega (arith, length-reverse c.turn.queue.items)) (search rules) (ap reverse c.in-Some.ensures.items ∙ reverse-append c.pop_back.new.self.items (c.in-Some.last ∷ [])) (ap reverse c.push_front_reserved.ensures.items ∙ reverse-cons c.in-Some.last c.pop_back.new.self.items) ∙ c.turn.invariant.items;
  left = omega (arith, c.in-Some.ensures.cases);
  len = omega (arith, c.in-Some.ensures.cases);
  capacity = search rules;
}

pub returns-clause-items : goal.returns-clause-items
returns-clause-items c =
    turned_back c.turn.left c.turn.wanted _ _ c.turn.queue.items _ _ (search rules) c.turn.invariant.left
    (λ some. elim c.turn-test.branch [ then-turn-test+else-left-gt0 w ↦ omega arith | else-turn-test w ↦ omega arith ])
    c.rotate_right.ensures.items c.turn.invariant.items
