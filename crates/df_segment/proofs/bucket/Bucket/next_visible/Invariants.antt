use Rattle.std.proofs.Common.{◌≡◌, ◌≤◌, ◌<◌, ℕ, true, slice_index_or}
use Rattle.df_segment.specs.Entries.{Slot}
use Rattle.df_segment.proofs.bucket.Bucket.next_visible.Given as goal

abbrev pub invariant-entries : goal.invariant-entries
invariant-entries g l = (k : ℕ) (d : Slot g.row.V.Denot) → l.from ≤ k → k < l.i → (slice_index_or l.self.entries k d).staged ≡ true
