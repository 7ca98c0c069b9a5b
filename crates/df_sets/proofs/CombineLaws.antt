-- Sets combined one after another are combined at once.
use Rattle.std.proofs.Common.{◌≡◌, Bool, true, false, ◌&&◌, ◌||◌, cond, ◌-◌, ◌<◌, List, [], ◌∷◌, length, take, drop, get_or, refl, sym, ap, ◌∙◌, arith}
use Rattle.std.proofs.lemmas.List.{take_all}
use Rattle.std.specs.Borrow.{Bor}
use Rattle.std.specs.Prelude.{Option, Some, None, is_some, not}
use Rattle.std.specs.FinMap as finmap
use Rattle.df_model.specs.Values.{Bytes, Members}
use Rattle.df_model.specs.Members.{empty, contains, items, union, intersection, difference}
use Rattle.df_model.specs.Meaning.Sets as sets
use Rattle.df_model.proofs.MembersLaws.{same_members, in_with_all}
use Rattle.df_colls.specs.Roomy.{order, RoomyMembers}
use Rattle.df_colls.proofs.OrderLaws.{same_key}
use Rattle.df_sets.specs.Combined.{combined, folded, lent_members}
use Rattle.df_sets.specs.declared.combination.Combine.{Combine}
use Rattle.df_sets.specs.declared.combination.Combine.TheVariants.{Inter, Union, Diff}

-- ---- members of what is made of two sets

kept : (s : Members) (p : Bytes → Bool) (q : Bytes) → contains (finmap.retain_keys s p) q ≡ (contains s q && p q)
kept s p q = ap is_some (finmap.get-retain_keys s p q (λ x e. ap p (sym (same_key q x e)))) ∙ both (p q) (finmap.get s q)
  where
    both : (b : Bool) (o : Option (Unit {0})) → is_some (cond b o None) ≡ (is_some o && b)
    both true (Some u) = refl
    both true None = refl
    both false (Some u) = refl
    both false None = refl

pub in_both : (s t : Members) (q : Bytes) → contains (intersection s t) q ≡ (contains s q && contains t q)
in_both s t q = kept s (contains t) q

pub in_first : (s t : Members) (q : Bytes) → contains (difference s t) q ≡ (contains s q && not (contains t q))
in_first s t q = kept s (λ m. not (contains t m)) q

pub in_either : (s t : Members) (q : Bytes) → contains (union s t) q ≡ (contains s q || contains t q)
in_either s t q = in_with_all (items t) s q ∙ ap (λ b. contains s q || b) (sym (finmap.contains_key-keys t q))

none : (q : Bytes) → contains empty q ≡ false
none q = ap is_some (finmap.get-empty order q)

-- ---- one after another

and_again : (a b c : Bool) → ((a && b) && c) ≡ (a && (b && c))
and_again true b c = refl
and_again false b c = refl

or_again : (a b c : Bool) → ((a || b) || c) ≡ (a || (b || c))
or_again true b c = refl
or_again false b c = refl

without_either : (a b c : Bool) → ((a && not b) && not c) ≡ (a && not (b || c))
without_either true true c = refl
without_either true false c = refl
without_either false b c = refl

inter_again : (s t u : Members) → intersection (intersection s t) u ≡ intersection s (intersection t u)
inter_again s t u = same_members _ _ (λ q.
    in_both (intersection s t) u q ∙ ap (λ b. b && contains u q) (in_both s t q) ∙ and_again (contains s q) (contains t q) (contains u q)
    ∙ sym (in_both s (intersection t u) q ∙ ap (λ b. contains s q && b) (in_both t u q)))

union_again : (s t u : Members) → union (union s t) u ≡ union s (union t u)
union_again s t u = same_members _ _ (λ q.
    in_either (union s t) u q ∙ ap (λ b. b || contains u q) (in_either s t q) ∙ or_again (contains s q) (contains t q) (contains u q)
    ∙ sym (in_either s (union t u) q ∙ ap (λ b. contains s q || b) (in_either t u q)))

diff_again : (s t u : Members) → difference (difference s t) u ≡ difference s (union t u)
diff_again s t u = same_members _ _ (λ q.
    in_first (difference s t) u q ∙ ap (λ b. b && not (contains u q)) (in_first s t q) ∙ without_either (contains s q) (contains t q) (contains u q)
    ∙ sym (in_first s (union t u) q ∙ ap (λ b. contains s q && not b) (in_either t u q)))

union_none : (s : Members) → s ≡ union s empty
union_none s = same_members _ _ (λ q. sym (in_either s empty q ∙ ap (λ b. contains s q || b) (none q) ∙ same (contains s q)))
  where
    same : (a : Bool) → (a || false) ≡ a
    same true = refl
    same false = refl

diff_none : (s : Members) → s ≡ difference s empty
diff_none s = same_members _ _ (λ q. sym (in_first s empty q ∙ ap (λ b. contains s q && not b) (none q) ∙ same (contains s q)))
  where
    same : (a : Bool) → (a && true) ≡ a
    same true = refl
    same false = refl

inter_more : (s t : Members) (more : List Members) → sets.inter (intersection s t ∷ more) ≡ intersection s (sets.inter (t ∷ more))
inter_more s t [] = refl
inter_more s t (u ∷ more) = inter_again s t (sets.inter (u ∷ more))

-- what is folded from the first of some sets over the others is their combination
pub folded_is : (op : Combine) (s : Members) (more : List Members) → folded op s more ≡ combined op (s ∷ more)
folded_is Inter s [] = refl
folded_is Inter s (t ∷ more) = folded_is Inter (intersection s t) more ∙ inter_more s t more
folded_is Union s [] = union_none s
folded_is Union s (t ∷ more) = folded_is Union (union s t) more ∙ union_again s t (sets.union more)
folded_is Diff s [] = diff_none s
folded_is Diff s (t ∷ more) = folded_is Diff (difference s t) more ∙ diff_again s t (sets.union more)

-- some lent sets, the first of them copied and the others folded
pub from_first : (op : Combine) (lent : List (Bor RoomyMembers)) (first : Bor RoomyMembers) (so_far : Members) → 0 < length lent → first ≡ get_or lent 0 first → so_far ≡ first.now.members → folded op so_far (lent_members (take (length lent - 1) (drop 1 lent))) ≡ combined op (lent_members lent)
from_first op [] first so_far h is copied = absurd (omega arith)
from_first op (s ∷ more) first so_far h is copied =
    let rest : take (length (s ∷ more) - 1) more ≡ more = take_all (length (s ∷ more) - 1) more (omega arith) in
    ap (λ sets. folded op so_far (lent_members sets)) rest
    ∙ ap (λ m. folded op m (lent_members more)) (copied ∙ ap (λ lent. lent.now.members) is)
    ∙ folded_is op s.now.members (lent_members more)
