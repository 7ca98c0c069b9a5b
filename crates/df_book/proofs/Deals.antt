-- The passes of the logs, one after the other.
use Rattle.std.proofs.Common.{◌≡◌, ℕ, suc, ◌+◌, ◌-◌, ◌<◌, List, [], ◌∷◌, ◌++◌, refl, ap, ◌∙◌, arith}
use Rattle.df_book.specs.Weights.{from_on}
use Rattle.df_book.specs.Passes.{BookName, new_shard, shard_passes}
use Rattle.df_book.specs.Views.{after_shard, shard_off}
use Rattle.df_book.specs.Deals.{dealing, owner_of}

left-over : (i n : ℕ) → i < n → n - i ≡ suc (n - (i + 1))
left-over i n h = omega arith

pub owns-next : (draws i n : ℕ) → i < n → (dealing draws i (n - i)).owns ≡ i ∷ from_on (suc i) (n - (i + 1))
owns-next draws i n h = ap (from_on i) (left-over i n h)

pub dealt : (draws i n : ℕ) → i < n → after_shard (dealing draws i (n - i)) ≡ dealing draws (i + 1) (n - (i + 1))
dealt draws i n h = let e : suc i ≡ i + 1 = omega arith in ap (λ (k : ℕ). after_shard (dealing draws i k)) (left-over i n h) ∙ ap (λ (j : ℕ). dealing draws j (n - (i + 1))) e

pub dealt-off : (draws i n : ℕ) → i < n → shard_off (dealing draws i (n - i)) ≡ owner_of i
dealt-off draws i n h = ap (λ (k : ℕ). shard_off (dealing draws i k)) (left-over i n h)

pub passes-next : (z : BookName) (i n : ℕ) → i < n → shard_passes z i (n - i) ≡ new_shard z i ∷ shard_passes z (i + 1) (n - (i + 1))
passes-next z i n h = let e : suc i ≡ i + 1 = omega arith in ap (shard_passes z i) (left-over i n h) ∙ ap (λ (j : ℕ). new_shard z i ∷ shard_passes z j (n - (i + 1))) e

pub regroup : {A : Type 0} (xs : List A) (x : A) (ys : List A) → (xs ++ x ∷ []) ++ ys ≡ xs ++ x ∷ ys
regroup [] x ys = refl
regroup (w ∷ xs) x ys = ap (λ (t : List _). w ∷ t) (regroup xs x ys)
