-- A new book keeps the rule.
use Rattle.std.proofs.Common.{◌≡◌, ℕ, zero, suc, ◌+◌, ◌^◌, ◌<◌, List, [], ◌∷◌, length, sym, refl, ap, subst, arith}
use Rattle.std.specs.Prelude.{slice_index}
use mathlib.Core.Option.{some, some-injective, some-ne-none}
use lib.ListN.{get_elem?}
use Rattle.atomic_table.specs.Table.{opening}
use Rattle.df_book.specs.Weights.{below, from_on}
use Rattle.df_book.specs.Views.{opening_view}
use Rattle.df_book.specs.Rule.{Owner, Fits, Kept}
use Rattle.df_book.specs.declared.view.Said.{Said}
use Rattle.df_book.specs.declared.view.View.{View}
use Rattle.df_book.proofs.Sums.{Each-all, below-from_on}

-- a new book
pub opens : (shards draws : ℕ) (ws : List ℕ) → draws < 2 ^ 63 → length ws ≡ suc (suc shards) → slice_index ws 0 ≡ 1 → ((i : ℕ) → i < suc shards → slice_index ws (suc i) ≡ 0) → Kept (suc shards) (opening {S = Said} ws [] (opening_view shards draws))
opens shards draws ws small wide one zeros = record {
  book = [];
  logs = [];
  wide = wide;
  counter = one;
  lengths = λ i h. zeros i h;
  numbered = λ k d e. absurd (cc);
  room = omega (arith, small);
  owned = λ f. refl;
  seated = λ f. refl;
  one_first = refl;
  shelved = λ f. let e : 0 + suc shards ≡ suc shards = omega arith in omega (arith, ap (below f) e, below-from_on f 0 (suc shards));
  running = λ f. omega arith;
  entered = λ i. tt;
  inside = λ i h. refl;
  each = only-one;
}
  where
    only-one : (j : ℕ) (v : View) → get_elem? (opening_view shards draws ∷ []) j ≡ some v → Fits [] [] v
    only-one zero v e = subst (Fits [] []) (some-injective _ _ e)
        record { own = tt; known = tt; seen = λ s. tt; left = λ s. tt; right = λ s. tt; owner = Each-all (Owner [] (opening_view shards draws)) (λ a. (refl, λ m. omega arith)) (from_on 0 (suc shards)); caller = λ a b. absurd (cc); splits = λ a. refl; made = tt }
    only-one (suc j) v e = absurd (some-ne-none v (sym e))
