use Rattle.std.proofs.Common.{◌≡◌, subst, IfOk}
use Rattle.df_model.specs.Values.{Members}
use Rattle.df_sets.proofs.CombineLaws.{from_first}
use Rattle.df_sets.proofs.fold.combine.Goals as goal

pub returns : goal.returns
returns c =
    subst (λ (m : Members). IfOk c.next_each.result (λ made. made.members ≡ m))
    (from_first c.args.op c.args.sets.now c.index-sets-0.result c.in_ok-so_far.so_far.members c.requires c.index-sets-0.is c.in_ok-so_far.ensures)
    c.next_each.ensures
