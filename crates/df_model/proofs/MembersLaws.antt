-- Which members a set has.
use Rattle.std.proofs.Common.{◌≡◌, Bool, true, false, cond, ◌||◌, is_some, List, [], ◌∷◌, refl, ap, ◌∙◌}
use Rattle.std.specs.Prelude.{Option, Some, None}
use Rattle.std.specs.List.{list_any}
use Rattle.std.specs.Cmp.Lexicographic.{nat_list_cmp_total}
use Rattle.std.specs.FinMap.{get-insert, same_map}
use Rattle.std.specs.FinMap as fin
use Rattle.df_model.specs.Values.{Bytes, Members}
use Rattle.df_model.specs.Members.{contains, insert, with_all}
use Rattle.df_model.proofs.LocalityLaws.{tied, same_bytes}

-- two sets with the same members are one
pub same_members : (s t : Members) → ((q : Bytes) → contains s q ≡ contains t q) → s ≡ t
same_members s t h = same_map nat_list_cmp_total same_bytes s t (λ q. told (fin.get s q) (fin.get t q) (h q))
  where
    told : (a b : Option (Unit {0})) → is_some a ≡ is_some b → a ≡ b
    told None None e = refl
    told None (Some b) e = cc
    told (Some a) None e = cc
    told (Some a) (Some b) e = refl

in_insert : (s : Members) (m q : Bytes) → contains (insert s m) q ≡ (tied q m || contains s q)
in_insert s m q = ap is_some (get-insert nat_list_cmp_total s m tt q) ∙ some_or (tied q m) (fin.get s q)
  where
    some_or : (b : Bool) (o : Option (Unit {0})) → is_some (cond b (Some tt) o) ≡ (b || is_some o)
    some_or true o = refl
    some_or false o = refl

pub in_with_all : (ms : List Bytes) (s : Members) (q : Bytes) → contains (with_all ms s) q ≡ (contains s q || list_any (tied q) ms)
in_with_all [] s q = right (contains s q)
  where
    right : (a : Bool) → a ≡ (a || false)
    right true = refl
    right false = refl
in_with_all (m ∷ ms) s q = in_with_all ms (insert s m) q ∙ ap (λ b. b || list_any (tied q) ms) (in_insert s m q) ∙ swap (tied q m) (contains s q) (list_any (tied q) ms)
  where
    swap : (a b c : Bool) → ((a || b) || c) ≡ (b || (a || c))
    swap true true c = refl
    swap true false c = refl
    swap false b c = refl
