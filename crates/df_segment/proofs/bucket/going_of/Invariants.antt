use Rattle.std.proofs.Common.{◌≡◌, ◌<◌, ◌≤◌, ℕ, false, length, take, slice_index_or}
use Rattle.std.specs.List.{filter}
use Rattle.df_segment.specs.declared.entry.Entry.{Entry}
use Rattle.df_segment.specs.Entries.{goes}
use Rattle.df_segment.proofs.bucket.going_of.Given as goal

abbrev pub invariant-entries : goal.invariant-entries
invariant-entries g l = record {
  marks : (k : ℕ) (d : Entry g.row.V.Denot) → k < l.i → slice_index_or l.going k false ≡ goes l.bit (slice_index_or l.entries k d).key;
  count : l.count ≡ length (filter (λ (e : Entry g.row.V.Denot). goes l.bit e.key) (take l.i l.entries));
  long : length l.going ≡ 14;
  few : l.count ≤ l.i;
}
