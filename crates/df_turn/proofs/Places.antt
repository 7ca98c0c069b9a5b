-- Lists with an entry for each shard, by place.
use Rattle.std.proofs.Common.{◌≡◌, ◌≢◌, ℕ, zero, suc, ◌+◌, ◌<◌, ◌≤◌, List, [], ◌∷◌, ◌++◌, length, get_or, set, refl, sym, ap, subst, ◌∙◌, below_more, get_or-set_other, get_or-set_same, arith}
use Rattle.std.proofs.lemmas.List.{get_or_append_left, get_or_past}
use Rattle.std.proofs.Math.Seq.{get_or-append_seam}
use Rattle.std.specs.Prelude.{Option}
use Rattle.df_model.specs.Values.{Bytes}
use Rattle.df_model.specs.Values as plain
use Rattle.df_model.specs.Spared.{Spared, all_of}
use Rattle.df_model.specs.declared.keys.Mode.{Mode}
use Rattle.df_values.specs.declared.value.Value.{Value}
use Rattle.df_spread.specs.Spread.{modes_at, values_at, changes_at}
use Rattle.df_turn.specs.Heard.{seen_values}

pub modes-get : (keys : List (Spared (Bytes × Mode))) (s : ℕ) → modes_at keys s ≡ (get_or keys s (all_of [])).items
modes-get [] s = refl
modes-get (m ∷ more) zero = refl
modes-get (m ∷ more) (suc s) = modes-get more s

pub values-get : (values : List (Spared (Option Value))) (s : ℕ) → values_at values s ≡ seen_values (get_or values s (all_of [])).items
values-get [] s = refl
values-get (m ∷ more) zero = refl
values-get (m ∷ more) (suc s) = values-get more s

pub changes-get : (made : List (Spared (Bytes × Option Value))) (s : ℕ) → changes_at made s ≡ (get_or made s (all_of [])).items
changes-get [] s = refl
changes-get (m ∷ more) zero = refl
changes-get (m ∷ more) (suc s) = changes-get more s

-- ---- past the last shard

pub modes-past : (keys : List (Spared (Bytes × Mode))) (s : ℕ) → length keys ≤ s → modes_at keys s ≡ []
modes-past keys s le = modes-get keys s ∙ ap (λ m. m.items) (get_or_past keys s (all_of []) le)

pub values-past : (values : List (Spared (Option Value))) (s : ℕ) → length values ≤ s → values_at values s ≡ []
values-past values s le = values-get values s ∙ ap (λ v. seen_values v.items) (get_or_past values s (all_of []) le)

-- ---- one shard more

module _ {A : Type 0} where
  -- what holds of each entry, and of one that is pushed
  pub each-pushed : (P : ℕ → A → Type 0) (xs : List A) (v d : A) (i : ℕ) → length xs ≡ i → ((k : ℕ) → k < i → P k (get_or xs k d)) → P i v →
      (k : ℕ) → k < i + 1 → P k (get_or (xs ++ v ∷ []) k d)
  each-pushed P xs v d i count before last =
      below_more (λ k. P k (get_or (xs ++ v ∷ []) k d)) i
      (λ k lt. let here : k < length xs = omega arith in subst (P k) (sym (get_or_append_left xs (v ∷ []) d k here)) (before k lt))
      (subst (λ n. P i (get_or (xs ++ v ∷ []) n d)) count (subst (P i) (sym (get_or-append_seam xs v [] d)) last))

  -- or that is put in place
  pub each-set : (P : ℕ → A → Type 0) (xs : List A) (v d : A) (i : ℕ) → i < length xs → ((k : ℕ) → k < i → P k (get_or xs k d)) → P i v →
      (k : ℕ) → k < i + 1 → P k (get_or (set xs i v) k d)
  each-set P xs v d i within before here =
      below_more (λ k. P k (get_or (set xs i v) k d)) i
      (λ k lt. let other : k ≢ i = omega arith in subst (P k) (sym (get_or-set_other xs i k v d other)) (before k lt))
      (subst (P i) (sym (get_or-set_same xs i v d within)) here)

  -- those behind it stay
  pub left-set : (xs ys : List A) (v d : A) (i : ℕ) → ((k : ℕ) → i ≤ k → get_or xs k d ≡ get_or ys k d) →
      (k : ℕ) → i + 1 ≤ k → get_or (set xs i v) k d ≡ get_or ys k d
  left-set xs ys v d i left k le = let other : k ≢ i = omega arith in get_or-set_other xs i k v d other ∙ left k (omega (arith, le))

pub values-pushed : (f : ℕ → List (Option plain.Value)) (values : List (Spared (Option Value))) (v : Spared (Option Value)) (i : ℕ) → length values ≡ i →
    ((k : ℕ) → k < i → values_at values k ≡ f k) → seen_values v.items ≡ f i → (k : ℕ) → k < i + 1 → values_at (values ++ v ∷ []) k ≡ f k
values-pushed f values v i count before last k lt =
    values-get (values ++ v ∷ []) k
    ∙ each-pushed (λ n x. seen_values x.items ≡ f n) values v (all_of []) i count (λ n h. sym (values-get values n) ∙ before n h) last k lt

pub modes-pushed : (f : ℕ → List (Bytes × Mode)) (keys : List (Spared (Bytes × Mode))) (v : Spared (Bytes × Mode)) (i : ℕ) → length keys ≡ i →
    ((k : ℕ) → k < i → modes_at keys k ≡ f k) → v.items ≡ f i → (k : ℕ) → k < i + 1 → modes_at (keys ++ v ∷ []) k ≡ f k
modes-pushed f keys v i count before last k lt =
    modes-get (keys ++ v ∷ []) k
    ∙ each-pushed (λ n x. x.items ≡ f n) keys v (all_of []) i count (λ n h. sym (modes-get keys n) ∙ before n h) last k lt
