use Rattle.std.proofs.Common.{◌≡◌, ◌<◌, ◌*◌, ◌/◌, ℕ, length, slice_index, vec_capacity}
use Rattle.df_dashtable.proofs.grow.doubled.Given as goal

abbrev pub invariant-places : goal.invariant-places
invariant-places l = record {
  long : length l.twice.items ≡ l.q;
  room : vec_capacity l.twice ≡ 2 * length l.directory;
  done : (k : ℕ) → k < l.q → slice_index l.twice.items k ≡ slice_index l.directory (k / 2);
}
