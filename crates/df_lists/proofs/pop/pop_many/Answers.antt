use Rattle.std.proofs.Common.{◌≡◌, [], refl, rules}
use Rattle.df_lists.proofs.RangeLaws.{some_long}
use Rattle.df_lists.proofs.PopLaws.{many_gives}
use Rattle.df_lists.proofs.pop.pop_many.Goals as goal

pub returns : goal.returns
returns c =
    let xs = c.args.list.now.items in
    let some : xs ≡ [] → ⊥ = search rules in
    many_gives c.args.side c.args.list.now c.args.count c.min-popped.result c.len-before.result _ _ _ _ (some_long xs some)
    c.len-before.ensures c.min-popped.ensures refl c.edit_of.ensures c.in_ok-elements.ensures c.resized.ensures
