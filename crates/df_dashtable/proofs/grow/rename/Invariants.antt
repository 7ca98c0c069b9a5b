use Rattle.std.proofs.Common.{◌≡◌, ◌<◌, ◌≤◌, ℕ, length, slice_index}
use Rattle.df_dashtable.specs.Tables.{renamed}
use Rattle.df_dashtable.proofs.grow.rename.Given as goal

abbrev pub invariant-places : goal.invariant-places
invariant-places l = record {
  long : length l.directory ≡ length l.fn.directory;
  done : (k : ℕ) → k < l.q → slice_index l.directory k ≡ renamed l.s l.new l.shift k (slice_index l.fn.directory k);
  rest : (k : ℕ) → l.q ≤ k → slice_index l.directory k ≡ slice_index l.fn.directory k;
}
