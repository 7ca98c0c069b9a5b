use Rattle.std.proofs.Common.{◌≡◌, ℕ, ◌≤◌, ◌++◌, take, drop, vec_len, vec_capacity}
use Rattle.std.specs.List.{All}
use Rattle.df_colls.specs.Parts.{item_lists}
use Rattle.df_colls.specs.Sums.{with_len}
use Rattle.df_colls.proofs.SumLaws.{Climb}
use Rattle.df_colls.proofs.sums.set_path.Given as goal

abbrev pub invariant-levels : goal.invariant-levels
invariant-levels l = record {
  len : vec_len l.levels ≡ vec_len l.fn.levels;
  path : take l.i (item_lists l.levels.items) ++ with_len l.was l.len l.at (drop l.i (item_lists l.levels.items)) ≡ with_len l.was l.len l.leaf (item_lists l.fn.levels.items);
  wide : (room : ℕ) → All (λ v. room ≤ vec_capacity v) l.fn.levels.items → All (λ v. room ≤ vec_capacity v) l.levels.items;
  climb : Climb l.was l.len l.at (drop l.i (item_lists l.levels.items));
}
