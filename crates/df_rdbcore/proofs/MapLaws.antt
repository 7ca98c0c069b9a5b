-- A map is that of its entries, and no key of them stands twice.
use Rattle.std.proofs.Common.{◌≡◌, ◌≢◌, T, Bool, true, false, cond, List, [], ◌∷◌, refl, sym, ap, subst, ◌∙◌}
use Rattle.std.specs.Prelude.{Some, None, ◌&&◌}
use Rattle.std.specs.Ordering.{nat_cmp, is_lt, is_eq}
use Rattle.std.specs.declared.cmp.Ordering.{Ordering}
use Rattle.std.specs.Cmp.{tied_itself}
use Rattle.std.specs.Cmp.Lexicographic.{slice_cmp, nat_list_cmp_total}
use Rattle.std.specs.List.{AllByRecursion}
use Rattle.std.specs.FinMap.{FinMap, from_entries, entries_sorted, get-from_entries, get-entries, same_map, slice_cmp-IsAntisymmetric, nat_cmp-IsAntisymmetric}
use Rattle.std.specs.FinMap as fin
use Rattle.std.specs.FinMap.Entries.{find, below_all, is_sorted}
use Rattle.df_model.specs.Values.{Bytes}
use Rattle.df_model.proofs.LocalityLaws.{tied}
use Rattle.df_model.proofs.WholeLaws.{tied_bytes}
use Rattle.df_limits.specs.Limits.{Each}
use Rattle.df_rdbcore.specs.Parts.{NoneTwice, firsts}
use Rattle.std.specs.declared.cmp.Ordering.TheVariants.{Less, Equal, Greater}

pub refilled : {X : Type 0} (m : FinMap (slice_cmp nat_cmp) X) → m ≡ from_entries {R = slice_cmp nat_cmp} (fin.entries m)
refilled m =
    same_map nat_list_cmp_total (slice_cmp-IsAntisymmetric nat_cmp-IsAntisymmetric) m (from_entries (fin.entries m))
    (λ q. get-entries m q ∙ sym (get-from_entries nat_list_cmp_total (fin.entries m) q))

parted : (a b : Bool) → T (a && b) → T a × T b
parted true b p = (tt, p)
parted false b p = absurd p

lower : (o : Ordering) → T (is_lt o) → is_eq o ≡ false
lower Less p = refl
lower Equal p = absurd p
lower Greater p = absurd p

pub tied_self : (x : Bytes) → tied x x ≡ true
tied_self x = ap is_eq (tied_itself nat_list_cmp_total x)

apart : (x y : Bytes) → tied x y ≡ false → x ≢ y
apart x y e same =
    let t : tied x y ≡ true = subst (λ z. tied x z ≡ true) same (tied_self x) in
    cc

module _ {X : Type 0} where
  none_below : (x : Bytes) (es : List (Bytes × X)) → T (below_all (slice_cmp nat_cmp) x es) → find (slice_cmp nat_cmp) x es ≡ None
  none_below x [] h = refl
  none_below x (e ∷ es) h =
      let p : T (is_lt (slice_cmp nat_cmp x e.0)) × T (below_all (slice_cmp nat_cmp) x es) = parted _ _ h in
      ap (λ b. cond b (Some e.1) (find (slice_cmp nat_cmp) x es)) (lower (slice_cmp nat_cmp x e.0) p.0) ∙ none_below x es p.1

  others_below : (x : Bytes) (es : List (Bytes × X)) → T (below_all (slice_cmp nat_cmp) x es) → AllByRecursion (λ y. x ≢ y) (firsts es)
  others_below x [] h = tt
  others_below x (e ∷ es) h =
      let p : T (is_lt (slice_cmp nat_cmp x e.0)) × T (below_all (slice_cmp nat_cmp) x es) = parted _ _ h in
      (apart x e.0 (lower (slice_cmp nat_cmp x e.0) p.0), others_below x es p.1)

  sorted_once : (es : List (Bytes × X)) → T (is_sorted (slice_cmp nat_cmp) es) → NoneTwice (firsts es)
  sorted_once [] h = tt
  sorted_once (e ∷ es) h =
      let p : T (below_all (slice_cmp nat_cmp) e.0 es) × T (is_sorted (slice_cmp nat_cmp) es) = parted _ _ h in
      (others_below e.0 es p.0, sorted_once es p.1)

  -- a key found behind the first entry isn't the first
  found_behind : (b : Bool) (q : Bytes) (e : Bytes × X) (es : List (Bytes × X)) (x : X) → tied q e.0 ≡ b → T (below_all (slice_cmp nat_cmp) e.0 es) →
      find (slice_cmp nat_cmp) q es ≡ Some x → cond b (Some e.1) (find (slice_cmp nat_cmp) q es) ≡ Some x
  found_behind false q e es x t h f = f
  found_behind true q e es x t h f =
      let none : find (slice_cmp nat_cmp) q es ≡ None = subst (λ z. find (slice_cmp nat_cmp) z es ≡ None) (sym (tied_bytes q e.0 t)) (none_below e.0 es h) in
      cc

  all_found : (P : Bytes → X → Type 0) (es : List (Bytes × X)) → T (is_sorted (slice_cmp nat_cmp) es) →
      ((q : Bytes) (x : X) → find (slice_cmp nat_cmp) q es ≡ Some x → P q x) → AllByRecursion (λ e. P e.0 e.1) es
  all_found P [] h each = tt
  all_found P (e ∷ es) h each =
      let p : T (below_all (slice_cmp nat_cmp) e.0 es) × T (is_sorted (slice_cmp nat_cmp) es) = parted _ _ h in (
        each e.0 e.1 (ap (λ b. cond b (Some e.1) (find (slice_cmp nat_cmp) e.0 es)) (tied_self e.0)),
        all_found P es p.1 (λ q x f. each q x (found_behind (tied q e.0) q e es x refl p.0 f)),
      )

  pub keys_once : (m : FinMap (slice_cmp nat_cmp) X) → NoneTwice (firsts (fin.entries m))
  keys_once m = sorted_once (fin.entries m) (entries_sorted m)

  pub each_entry : (P : Bytes → X → Type 0) (m : FinMap (slice_cmp nat_cmp) X) → Each P m → AllByRecursion (λ e. P e.0 e.1) (fin.entries m)
  each_entry P m each = all_found P (fin.entries m) (entries_sorted m) (λ q x f. each q x (get-entries m q ∙ f))
