-- What holds of each key of a map holds after a key was put, after keys were taken out, and of no key at all.
use Rattle.std.proofs.Common.{◌≡◌, Bool, true, false, cond, refl, sym, ap, subst, ◌∙◌}
use Rattle.std.specs.Prelude.{Option, Some, None}
use Rattle.std.specs.Ordering.{nat_cmp}
use Rattle.std.specs.Cmp.Lexicographic.{slice_cmp, nat_list_cmp_total}
use Rattle.std.specs.FinMap.{FinMap, get-empty, get-insert, get-remove, get-retain_keys}
use Rattle.std.specs.FinMap as map
use Rattle.df_model.specs.Values.{Bytes}
use Rattle.df_model.proofs.LocalityLaws.{tied, same_bytes}
use Rattle.df_model.proofs.WholeLaws.{tied_bytes}
use Rattle.df_limits.specs.Limits.{Each}

none_some : {X : Type 0} (x : X) (old : Option X) → old ≡ None → old ≡ Some x → ⊥
none_some x old e f = cc

some_same : {X : Type 0} (x y : X) → Option.Some x ≡ Some y → x ≡ y
some_same x y e = cc

module _ {X : Type 0} (P : Bytes → X → Type 0) where
  pub each_of_none : Each P (map.empty {X = X} {R = slice_cmp nat_cmp})
  each_of_none key there e = absurd (none_some there (map.get (map.empty {X = X} {R = slice_cmp nat_cmp}) key) (get-empty {X = X} (slice_cmp nat_cmp) key) e)

  put : (b : Bool) (key : Bytes) (value there : X) (old : Option X) → cond b (Some value) old ≡ Some there → (b ≡ true → P key value) → (old ≡ Some there → P key there) → P key there
  put true key value there old e p q = subst (P key) (some_same value there e) (p refl)
  put false key value there old e p q = q e

  pub each_insert : (m : FinMap (slice_cmp nat_cmp) X) (k : Bytes) (value : X) → P k value → Each P m → Each P (map.insert m k value)
  each_insert m k value p each key there e =
      put (tied key k) key value there (map.get m key) (sym (get-insert nat_list_cmp_total m k value key) ∙ e)
      (λ t. subst (λ q. P q value) (sym (tied_bytes key k t)) p)
      (each key there)

  taken : (b : Bool) (key : Bytes) (there : X) (old : Option X) → cond b None old ≡ Some there → (old ≡ Some there → P key there) → P key there
  taken true key there old e q = absurd (none_some there None refl e)
  taken false key there old e q = q e

  pub each_remove : (m : FinMap (slice_cmp nat_cmp) X) (k : Bytes) → Each P m → Each P (map.remove m k)
  each_remove m k each key there e = taken (tied key k) key there (map.get m key) (sym (get-remove nat_list_cmp_total m k key) ∙ e) (each key there)

  left : (b : Bool) (key : Bytes) (there : X) (old : Option X) → cond b old None ≡ Some there → (old ≡ Some there → P key there) → P key there
  left true key there old e q = q e
  left false key there old e q = absurd (none_some there None refl e)

  pub each_retained : (m : FinMap (slice_cmp nat_cmp) X) (test : Bytes → Bool) → Each P m → Each P (map.retain_keys m test)
  each_retained m test each key there e =
      left (test key) key there (map.get m key) (sym (get-retain_keys m test key (λ x t. ap test (sym (same_bytes key x t)))) ∙ e) (each key there)
