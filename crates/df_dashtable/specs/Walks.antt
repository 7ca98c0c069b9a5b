-- What is left of a walk over the visible entries.
use Rattle.std.specs.Prelude.{ℕ, suc, ◌<◌, List, ◌++◌, drop, length, slice_index_or}
use Rattle.std.specs.List.{filter_map, flat_map}
use Rattle.df_model.specs.Values.{Bytes}
use Rattle.df_segment.specs.declared.segment.Place.{Place}
use Rattle.df_segment.specs.Entries.{Slot}
use Rattle.df_segment.specs.Buckets.{Bucket, Segment, bucket_at}
use Rattle.df_dashtable.specs.declared.table.Spot.{Spot}
use Rattle.df_dashtable.specs.Visible.{visible_of, visible_in, visible_entries}
use Rattle.df_dashtable.specs.Tables.{Table, segment_at}

module _ {V : Type 0} where
  abbrev pub pair_of : Slot V → Bytes × V
  pair_of e = (e.key, e.value)

  -- a place of a segment, and what stands there
  abbrev pub IsPlace : Segment V → Place → Type 0
  IsPlace s p = (p.bucket < length s.buckets) × (p.slot < length (bucket_at s.buckets p.bucket).entries)

  abbrev pub slot_of_place : Segment V → Place → Slot V → Slot V
  slot_of_place s p d = slice_index_or (bucket_at s.buckets p.bucket).entries p.slot d

  -- from slot i of a bucket on
  abbrev pub rest_in : ℕ → Bucket V → List (Bytes × V)
  rest_in i b = filter_map visible_of (drop i b.entries)

  -- from bucket b of a segment on
  abbrev pub row_from : ℕ → Segment V → List (Bytes × V)
  row_from b s = flat_map visible_in (drop b s.buckets)

  -- from slot i of bucket b on
  abbrev pub rest_of : ℕ → ℕ → Segment V → List (Bytes × V)
  rest_of b i s = rest_in i (bucket_at s.buckets b) ++ row_from (suc b) s

  -- from segment s on
  abbrev pub segments_from : ℕ → List (Segment V) → List (Bytes × V)
  segments_from s ss = flat_map (λ x. visible_entries x.buckets) (drop s ss)

  -- from slot i of bucket b of segment s on
  abbrev pub rest_from : ℕ → ℕ → ℕ → List (Segment V) → List (Bytes × V)
  rest_from s b i ss = rest_of b i (segment_at ss s) ++ segments_from (suc s) ss

  -- what is visible behind a spot
  abbrev pub visible_behind : Spot → Table V → List (Bytes × V)
  visible_behind at t = rest_from at.segment at.place.bucket (suc at.place.slot) t.segments
