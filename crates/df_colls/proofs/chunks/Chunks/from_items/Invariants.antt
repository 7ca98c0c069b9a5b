use Rattle.std.proofs.Common.{◌≡◌, ◌++◌}
use Rattle.df_colls.specs.Cuts.{flat}
use Rattle.df_colls.proofs.chunks.Chunks.from_items.Given as goal

abbrev pub invariant-items : goal.invariant-items
invariant-items g l = flat l.chunks.parts ++ l.item-iterator.rest.items ≡ l.fn.items.items
