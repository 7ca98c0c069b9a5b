use Rattle.std.proofs.Common.{◌≡◌, ◌<◌, ℕ, [], length, vec_capacity, slice_index_or}
use Rattle.df_segment.specs.declared.bucket.Parting.{Parting}
use Rattle.df_segment.specs.Buckets.{bucket_at, IsParting}
use Rattle.df_segment.proofs.segment.partings_of.Given as goal

abbrev pub invariant-buckets : goal.invariant-buckets
invariant-buckets g l = record {
  so_far : length l.partings.items ≡ l.b;
  room : vec_capacity l.partings ≡ length l.buckets;
  bits : (b : ℕ) (p : Parting g.row.V.Denot) → b < l.b → (slice_index_or l.partings.items b p).bit ≡ l.bit;
  fits : (b : ℕ) (p : Parting g.row.V.Denot) → b < l.b → IsParting l.bit (bucket_at l.buckets b).entries (slice_index_or l.partings.items b p).going (vec_capacity (slice_index_or l.partings.items b p).room);
  empty : (b : ℕ) (p : Parting g.row.V.Denot) → b < l.b → (slice_index_or l.partings.items b p).room.items ≡ [];
}
