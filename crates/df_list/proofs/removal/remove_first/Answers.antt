use Rattle.std.proofs.Common.{◌∙◌, arith, rules}
use Rattle.df_list.proofs.TurnLaws.{passed}
use Rattle.df_list.proofs.removal.remove_first.Goals as goal

pub turn-preserved-else-eq : goal.turn-preserved-else-eq
turn-preserved-else-eq c = record {
  items = passed _ _ _ _ _ _ _ (omega arith) (omega arith) (search rules) c.in-Some.ensures.items c.push_back_reserved.ensures.items ∙ c.turn.invariant.items;
  left = omega (arith, c.in-Some.ensures.len);
  len = omega (arith, c.in-Some.ensures.len);
  capacity = search rules;
}
