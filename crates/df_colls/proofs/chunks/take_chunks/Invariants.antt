use Rattle.std.proofs.Common.{◌≡◌, ◌-◌, ◌≤◌, ◌⊎◌, vec_len}
use Rattle.std.specs.List.{All}
use Rattle.df_colls.specs.Parts.{IsFree}
use Rattle.df_colls.proofs.chunks.take_chunks.Given as goal

abbrev pub invariant-chunks : goal.invariant-chunks
invariant-chunks g l = record {
  empty : All IsFree l.free.items;
  more : vec_len l.fn.free ≤ vec_len l.free;
  most : (vec_len l.free ≤ l.wanted) ⊎ (vec_len l.free ≡ vec_len l.fn.free);
}

abbrev pub decreases-chunks : goal.decreases-chunks
decreases-chunks g l = l.wanted - vec_len l.free
