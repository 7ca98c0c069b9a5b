use Rattle.std.proofs.Common.{◌≡◌, ◌<◌, ℕ, true, length, slice_index_or}
use Rattle.df_segment.specs.Entries.{Slot, has_key, flag_at}
use Rattle.df_segment.proofs.bucket.Bucket.find.Given as goal

-- each entry of the key is still marked
abbrev pub invariant-matches : goal.invariant-matches
invariant-matches g l = record {
  within : (k : ℕ) → flag_at l.left k ≡ true → k < length l.self.entries;
  near : (k : ℕ) → flag_at l.left k ≡ true → k < 14;
  all : (k : ℕ) (d : Slot g.row.V.Denot) → k < length l.self.entries → has_key l.key (slice_index_or l.self.entries k d) ≡ true → flag_at l.left k ≡ true;
}

abbrev pub decreases-matches : goal.decreases-matches
decreases-matches g l = l.left
