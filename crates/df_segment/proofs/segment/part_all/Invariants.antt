use Rattle.std.proofs.Common.{◌≤◌, length, vec_capacity}
use Rattle.df_segment.proofs.PartLaws.{Parted}
use Rattle.df_segment.proofs.segment.part_all.Given as goal

abbrev pub invariant-buckets : goal.invariant-buckets
invariant-buckets g l = record {
  parted : Parted l.bit l.initial.buckets.items l.buckets.items l.halves.items l.parting-iterator.rest.items;
  room : length l.initial.buckets.items ≤ vec_capacity l.halves;
}
