use Rattle.std.proofs.Common.{◌≡◌, ◌+◌, ◌≤◌, ◌++◌, length}
use Rattle.df_colls.specs.Cuts.{flat}
use Rattle.df_colls.proofs.chunks.Chunks.push_all.Given as goal

abbrev pub invariant-items : goal.invariant-items
invariant-items g l = record {
  items : flat l.self.parts ++ l.item-iterator.rest.items ≡ flat l.fn.self.parts ++ l.fn.items.items;
  room : l.fn.self.spare + length l.item-iterator.rest.items ≤ l.self.spare + length l.fn.items.items;
}
