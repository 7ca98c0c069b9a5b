-- Laws of the byte order, and of lists whose keys strictly rise.
use Rattle.std.proofs.Common.{◌≡◌, ℕ, zero, suc, ◌<◌, ◌≤◌, Bool, ◌&&◌, true, false, List, [], ◌∷◌, length, get_or, refl, sym, ap, ◌∙◌, arith}
use Rattle.std.specs.Prelude.{T}
use Rattle.std.specs.Ordering.{is_lt, ordering_reverse, ordering_index}
use Rattle.std.specs.Cmp.Lexicographic.{nat_list_cmp_total}
use Rattle.std.specs.declared.cmp.Ordering.{Ordering}
use Rattle.std.specs.declared.cmp.Ordering.TheVariants.{Less, Equal, Greater}
use Rattle.std.specs.FinMap.{is_sorted, slice_cmp-IsAntisymmetric, nat_cmp-IsAntisymmetric}
use Rattle.std.specs.FinMap.Entries.{below_all}
use Rattle.df_model.specs.Values.{Bytes}
use Rattle.df_colls.specs.Roomy.{order}
use Rattle.df_colls.specs.Places.{AllAbove}

pub first : (a b : Bool) → T (a && b) → T a
first true b p = tt
first false b p = p

pub second : (a b : Bool) → T (a && b) → T b
second true b p = p
second false b p = absurd p

pub less : (o : Ordering) → T (is_lt o) → o ≡ Less
less Less p = refl
less Equal p = absurd p
less Greater p = absurd p

-- keys that tie are equal
pub same_key : (a b : Bytes) → order a b ≡ Equal → a ≡ b
same_key = slice_cmp-IsAntisymmetric nat_cmp-IsAntisymmetric

pub flip : (a b : Bytes) (r : Ordering) → order a b ≡ r → order b a ≡ ordering_reverse r
flip a b r e = nat_list_cmp_total.antisymm b a ∙ ap ordering_reverse e

greatest : (r : Ordering) → ordering_index r ≤ ordering_index Greater
greatest Less = omega arith
greatest Equal = omega arith
greatest Greater = omega arith

-- what compares with k, compares no higher where it is less
pub lower : (a b k : Bytes) (r : Ordering) → order a b ≡ Less → order b k ≡ r → ordering_index (order a k) ≤ ordering_index r
lower a b k Less p e = rw (nat_list_cmp_total.trans a b k p e) (omega arith)
lower a b k Equal p e = rw (ap (λ x. order a x) (sym (same_key b k e)) ∙ p) (omega arith)
lower a b k Greater p e = greatest (order a k)

module _ {X : Type 0} where
  pub above : (k : Bytes) (es : List (Bytes × X)) → T (below_all order k es) → AllAbove k es
  above k [] h = tt
  above k (e ∷ es) h = (less _ (first _ _ h), above k es (second _ _ h))

  pub above_first : (e : Bytes × X) (es : List (Bytes × X)) → T (is_sorted order (e ∷ es)) → AllAbove e.0 es
  above_first e es s = above e.0 es (first _ _ s)

  pub above_at : (k : Bytes) (es : List (Bytes × X)) (j : ℕ) (d : Bytes × X) → AllAbove k es → j < length es → order k (get_or es j d).0 ≡ Less
  above_at k [] j d h lt = absurd (omega arith)
  above_at k (e ∷ es) zero d h lt = h.0
  above_at k (e ∷ es) (suc j) d h lt = above_at k es j d h.1 (omega arith)

  pub above_lower : (k x : Bytes) (es : List (Bytes × X)) → order k x ≡ Less → AllAbove x es → AllAbove k es
  above_lower k x [] p h = tt
  above_lower k x (e ∷ es) p h = (nat_list_cmp_total.trans k x e.0 p h.0, above_lower k x es p h.1)
