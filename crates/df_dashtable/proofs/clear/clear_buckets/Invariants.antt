use Rattle.std.proofs.Common.{◌≡◌}
use Rattle.df_segment.specs.Buckets.{staged_only, no_bucket}
use Rattle.df_dashtable.proofs.ClearLaws.{Done}
use Rattle.df_dashtable.proofs.clear.clear_buckets.Given as goal

abbrev pub invariant-buckets : goal.invariant-buckets
invariant-buckets g l = record {
  depth : l.segment.depth ≡ l.fn.segment.depth;
  done : Done staged_only no_bucket l.fn.segment.buckets l.segment.buckets l.b;
}
