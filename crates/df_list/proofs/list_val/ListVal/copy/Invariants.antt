use Rattle.std.proofs.Common.{◌≡◌, map}
use Rattle.df_list.proofs.list_val.ListVal.copy.Given as goal

abbrev pub invariant-elements : goal.invariant-elements
invariant-elements l = l.queue.items ≡ map (λ element. element.now) l.yielded
