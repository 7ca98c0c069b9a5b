use Rattle.std.proofs.Common.{◌≡◌, ◌+◌, ◌≤◌, ◌++◌, reverse, vec_len, vec_capacity}
use Rattle.df_colls.specs.declared.chunks.TheConstants.{FULL, HALF}
use Rattle.df_colls.proofs.chunks.move_upper.Given as goal

abbrev pub invariant-upper : goal.invariant-upper
invariant-upper g l = record {
  items : l.low.items ++ reverse l.high.items ≡ l.fn.low.items;
  lens : vec_len l.low + vec_len l.high ≡ FULL;
  within : HALF ≤ vec_len l.low;
  low_capacity : vec_capacity l.fn.low ≤ vec_capacity l.low;
  high_capacity : vec_capacity l.fn.high ≤ vec_capacity l.high;
}

abbrev pub decreases-upper : goal.decreases-upper
decreases-upper g l = vec_len l.low
