use Rattle.std.proofs.Common.{◌≡◌, pos, arith}
use Rattle.std.proofs.lemmas.Int.{ints}
use Rattle.df_lists.proofs.RemovalLaws.{removed_all}
use Rattle.df_lists.proofs.removal.removed_by.Goals as goal

pub returns-then-count-eq0 : goal.returns-then-count-eq0
returns-then-count-eq0 c =
    let none : c.args.count ≡ pos 0 = omega (arith, ints) in
    removed_all c.equal_from.result c.len.result c.args.count c.args.element.now c.args.list.now.items none c.len.ensures c.equal_from.ensures
