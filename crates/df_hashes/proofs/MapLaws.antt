-- Maps that are put to, or removed from, twice.
use Rattle.std.proofs.Common.{◌≡◌, Bool, true, false, cond, refl, sym, ap, subst, ◌∙◌}
use Rattle.std.specs.Prelude.{Some, None}
use Rattle.std.specs.Ordering.{eq_by_cmp, is_eq}
use Rattle.std.specs.declared.cmp.Ordering.{Ordering}
use Rattle.std.specs.declared.cmp.Ordering.TheVariants.{Less, Equal, Greater}
use Rattle.std.specs.Cmp.{tied_itself}
use Rattle.std.specs.Cmp.Lexicographic.{nat_list_cmp_total}
use Rattle.std.specs.FinMap.{FinMap}
use Rattle.std.specs.FinMap as map
use Rattle.df_model.specs.Values.{Bytes}
use Rattle.df_colls.specs.Roomy.{order}
use Rattle.df_colls.proofs.OrderLaws.{same_key}

equal : (r : Ordering) → is_eq r ≡ true → r ≡ Equal
equal Less e = cc
equal Equal e = refl
equal Greater e = cc

pub tied : (q k : Bytes) → eq_by_cmp order q k ≡ true → q ≡ k
tied q k e = same_key q k (equal (order q k) e)

pub itself : (k : Bytes) → eq_by_cmp order k k ≡ true
itself k = ap is_eq (tied_itself nat_list_cmp_total k)

module _ {A : Type 0} where
  twice : (b : Bool) (x y z : A) → cond b x (cond b y z) ≡ cond b x z
  twice true x y z = refl
  twice false x y z = refl

  swapped : (a b : Bool) (x y z : A) → (a ≡ true → b ≡ true → x ≡ y) → cond a x (cond b y z) ≡ cond b y (cond a x z)
  swapped true true x y z e = e refl refl
  swapped true false x y z e = refl
  swapped false true x y z e = refl
  swapped false false x y z e = refl

  absorbed : (b : Bool) (x z : A) → (b ≡ true → z ≡ x) → cond b x z ≡ z
  absorbed true x z e = sym (e refl)
  absorbed false x z e = refl

module _ {X : Type 0} where
  same : (m n : FinMap order X) → ((q : Bytes) → map.get m q ≡ map.get n q) → m ≡ n
  same = map.same_map nat_list_cmp_total same_key

  put_get : (m : FinMap order X) (k : Bytes) (v : X) (q : Bytes) → map.get (map.insert m k v) q ≡ cond (eq_by_cmp order q k) (Some v) (map.get m q)
  put_get = map.get-insert nat_list_cmp_total

  gone_get : (m : FinMap order X) (k q : Bytes) → map.get (map.remove m k) q ≡ cond (eq_by_cmp order q k) None (map.get m q)
  gone_get = map.get-remove nat_list_cmp_total

  pub put_here : (m : FinMap order X) (k : Bytes) (v : X) → map.get (map.insert m k v) k ≡ Some v
  put_here m k v = put_get m k v k ∙ ap (λ b. cond b (Some v) (map.get m k)) (itself k)

  pub put_other : (m : FinMap order X) (k : Bytes) (v : X) (q : Bytes) → eq_by_cmp order q k ≡ false → map.get (map.insert m k v) q ≡ map.get m q
  put_other m k v q e = put_get m k v q ∙ ap (λ b. cond b (Some v) (map.get m q)) e

  pub gone_other : (m : FinMap order X) (k q : Bytes) → eq_by_cmp order q k ≡ false → map.get (map.remove m k) q ≡ map.get m q
  gone_other m k q e = gone_get m k q ∙ ap (λ b. cond b None (map.get m q)) e

  pub put_again : (m : FinMap order X) (k : Bytes) (v w : X) → map.insert (map.insert m k v) k w ≡ map.insert m k w
  put_again m k v w = same _ _ (λ q.
      put_get (map.insert m k v) k w q ∙ ap (cond (eq_by_cmp order q k) (Some w)) (put_get m k v q)
      ∙ twice (eq_by_cmp order q k) (Some w) (Some v) (map.get m q) ∙ sym (put_get m k w q))

  pub put_swapped : (m : FinMap order X) (k l : Bytes) (v w : X) → eq_by_cmp order k l ≡ false → map.insert (map.insert m k v) l w ≡ map.insert (map.insert m l w) k v
  put_swapped m k l v w apart = same _ _ (λ q.
      put_get (map.insert m k v) l w q ∙ ap (cond (eq_by_cmp order q l) (Some w)) (put_get m k v q)
      ∙ swapped (eq_by_cmp order q l) (eq_by_cmp order q k) (Some w) (Some v) (map.get m q) (never q)
      ∙ sym (put_get (map.insert m l w) k v q ∙ ap (cond (eq_by_cmp order q k) (Some v)) (put_get m l w q)))
    where
      never : (q : Bytes) → eq_by_cmp order q l ≡ true → eq_by_cmp order q k ≡ true → Some w ≡ Some v
      never q a b = let both : eq_by_cmp order k l ≡ true = subst (λ x. eq_by_cmp order x l ≡ true) (tied q k b) a in cc

  pub put_same : (m : FinMap order X) (k : Bytes) (v : X) → map.get m k ≡ Some v → map.insert m k v ≡ m
  put_same m k v e = same _ _ (λ q. put_get m k v q ∙ absorbed (eq_by_cmp order q k) (Some v) (map.get m q) (λ t. ap (map.get m) (tied q k t) ∙ e))

  pub gone_again : (m : FinMap order X) (k : Bytes) → map.remove (map.remove m k) k ≡ map.remove m k
  gone_again m k = same _ _ (λ q.
      gone_get (map.remove m k) k q ∙ ap (cond (eq_by_cmp order q k) None) (gone_get m k q)
      ∙ twice (eq_by_cmp order q k) None None (map.get m q) ∙ sym (gone_get m k q))

  pub gone_swapped : (m : FinMap order X) (k l : Bytes) → map.remove (map.remove m k) l ≡ map.remove (map.remove m l) k
  gone_swapped m k l = same _ _ (λ q.
      gone_get (map.remove m k) l q ∙ ap (cond (eq_by_cmp order q l) None) (gone_get m k q)
      ∙ swapped (eq_by_cmp order q l) (eq_by_cmp order q k) None None (map.get m q) (λ a b. refl)
      ∙ sym (gone_get (map.remove m l) k q ∙ ap (cond (eq_by_cmp order q k) None) (gone_get m l q)))

  pub gone_none : (m : FinMap order X) (k : Bytes) → map.get m k ≡ None → map.remove m k ≡ m
  gone_none m k e = same _ _ (λ q. gone_get m k q ∙ absorbed (eq_by_cmp order q k) None (map.get m q) (λ t. ap (map.get m) (tied q k t) ∙ e))
