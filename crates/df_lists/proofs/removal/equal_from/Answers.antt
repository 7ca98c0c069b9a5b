use Rattle.std.proofs.Common.{◌≡◌, ◌∷◌, ◌+◌, ◌-◌, ℕ, true, false, length, drop, sym, ap, ◌∙◌, subst, arith, rules}
use Rattle.std.specs.Option.{option_copied}
use Rattle.df_model.specs.Words.{same}
use Rattle.df_model.specs.Meaning.Lists.{without_first}
use Rattle.df_lists.specs.Ends.{from_end}
use Rattle.df_lists.proofs.RangeLaws.{next_of, length-from_end}
use Rattle.df_lists.proofs.RemovalLaws.{count_met, count_passed, count_full, count_done}
use Rattle.df_lists.proofs.removal.equal_from.Goals as goal
use Rattle.df_lists.proofs.removal.equal_from.Goals.{then-eq, else-eq}

pub elements-preserved : goal.elements-preserved
elements-preserved c =
    let v = c.args.element.now in
    let x = c.in-Some.other.now in
    let xs = from_end c.args.side c.args.list.now.items in
    let total = length (without_first c.args.most v xs) in
    let rest = drop (c.elements.at + 1) xs in
    let next : drop c.elements.at xs ≡ x ∷ rest = next_of c.elements.at xs x (sym c.element_from.ensures ∙ ap option_copied c.in-Some.is) in
    let step : ℕ → Type 0 = λ met. met + total ≡ c.elements.at + 1 + length (without_first (c.args.most - met) v rest) in
    elim c.if-eq.branch [
      | then-eq w ↦
          let is : same x v ≡ true = search rules in
          record {
            count = subst step (sym w.met-is) (count_met c.elements.met c.args.most c.elements.at total v x (drop c.elements.at xs) rest (omega arith) next is c.elements.invariant.count);
            met = omega arith;
            most = omega arith;
          }
      | else-eq w ↦
          let is : same x v ≡ false = search rules in
          record {
            count = subst step (sym w.met-is) (count_passed c.elements.met c.args.most c.elements.at total v x (drop c.elements.at xs) rest next is c.elements.invariant.count);
            met = omega arith;
            most = omega arith;
          }
    ]

pub returns : goal.returns
returns c =
    let xs = from_end c.args.side c.args.list.now.items in
    count_done c.elements.met c.args.most c.elements.at _ c.args.element.now xs (omega (arith, length-from_end c.args.side c.args.list.now.items)) c.elements.invariant.count ∙ length-from_end c.args.side c.args.list.now.items

pub returns-then-met-most : goal.returns-then-met-most
returns-then-met-most c =
    let xs = from_end c.args.side c.args.list.now.items in
    count_full c.elements.met c.args.most c.elements.at _ c.args.element.now xs c.if-met-most.true (omega (arith, length-from_end c.args.side c.args.list.now.items)) c.elements.invariant.count ∙ length-from_end c.args.side c.args.list.now.items
