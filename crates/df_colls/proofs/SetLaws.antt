-- Laws of sets.
use Rattle.std.proofs.Common.{◌≡◌, cond, refl, sym, ap, ◌∙◌}
use Rattle.std.specs.Prelude.{Option, Some, None, is_some}
use Rattle.std.specs.Cmp.Lexicographic.{nat_list_cmp_total}
use Rattle.std.specs.FinMap as map
use Rattle.df_model.specs.Values.{Bytes, Members}
use Rattle.df_model.specs.Members.{contains, intersection}
use Rattle.df_colls.proofs.OrderLaws.{same_key}

found : (s t : Members) (q : Bytes) → map.get (intersection s t) q ≡ cond (contains t q) (map.get s q) None
found s t q = map.get-retain_keys s (contains t) q (λ x e. ap (contains t) (sym (same_key q x e)))

either : (a b : Option (Unit {0})) → cond (is_some b) a None ≡ cond (is_some a) b None
either (Some a) (Some b) = refl
either (Some a) None = refl
either None (Some b) = refl
either None None = refl

-- which of two sets is gone through makes no difference
pub intersection_turned : (s t : Members) → intersection s t ≡ intersection t s
intersection_turned s t =
    map.same_map nat_list_cmp_total same_key _ _ (λ q. found s t q ∙ either (map.get s q) (map.get t q) ∙ sym (found t s q))
