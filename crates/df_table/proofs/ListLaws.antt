-- Lists that are taken out of the table, and what LMOVE makes of them.
use Rattle.std.proofs.Common.{◌≡◌, ◌<◌, Bool, true, false, cond, List, [], ◌∷◌, length, reverse, refl, sym, ap, subst, ◌∙◌, arith}
use Rattle.std.specs.Prelude.{Option, Some, None, is_some}
use Rattle.std.proofs.lemmas.List.{length-reverse, reverse-reverse}
use Rattle.std.specs.Cmp.Lexicographic.{texts_ties}
use Rattle.df_model.specs.Values.{Bytes, Value}
use Rattle.df_model.specs.Words.{same}
use Rattle.df_model.specs.Keyspace.{Keyspace, held, with_held}
use Rattle.df_model.specs.Outcomes.{settled}
use Rattle.df_model.specs.Meaning.Lists.{lmove, sent, leaves, received, elements, stored, taken, given}
use Rattle.df_model.specs.declared.command.Side.{Side}
use Rattle.df_model.specs.declared.command.Side.TheVariants.{Left, Right}
use Rattle.df_model.specs.declared.reply.ErrorText.TheVariants.{WrongKind}
use Rattle.df_model.specs.declared.reply.Reply.TheVariants.{Bulk, Error}
use Rattle.df_model.proofs.LocalityLaws.{tied, held_with}
use Rattle.df_model.proofs.WholeLaws.{same_map_by, tied_is_same, held_other, held_same}
use Rattle.df_table.specs.Moved.{IsFilled, Passes, Turns, put_as}
use Rattle.df_table.specs.Responses.{Gives}
use Rattle.df_table.proofs.OneLaws.{put_back}

-- ---- keys that are taken out and put back

same_turned : (s d : Bytes) → same s d ≡ false → same d s ≡ false
same_turned s d e = texts_ties d s ∙ tied_is_same d s ∙ e

over : (K : Keyspace) (s : Bytes) (v w : Option Value) → with_held (with_held K s v) s w ≡ with_held K s w
over K s v w = same_map_by _ _ (λ q.
    held_with (with_held K s v) s w q ∙ ap (cond (tied q s) w) (held_with K s v q) ∙ twice (tied q s) (held K q) ∙ sym (held_with K s w q))
  where
    twice : (b : Bool) (h : Option Value) → cond b w (cond b v h) ≡ cond b w h
    twice true h = refl
    twice false h = refl

through : (K : Keyspace) (s d : Bytes) (v w : Option Value) → with_held (with_held (with_held (with_held K s None) d None) s v) d w ≡ with_held (with_held K s v) d w
through K s d v w = same_map_by _ _ (λ q.
    held_with (with_held (with_held (with_held K s None) d None) s v) d w q
    ∙ ap (cond (tied q d) w) (held_with (with_held (with_held K s None) d None) s v q)
    ∙ ap (λ h. cond (tied q d) w (cond (tied q s) v h)) (held_with (with_held K s None) d None q)
    ∙ ap (λ h. cond (tied q d) w (cond (tied q s) v (cond (tied q d) None h))) (held_with K s None q)
    ∙ four (tied q d) (tied q s) (held K q)
    ∙ ap (cond (tied q d) w) (sym (held_with K s v q))
    ∙ sym (held_with (with_held K s v) d w q))
  where
    four : (a b : Bool) (h : Option Value) → cond a w (cond b v (cond a None (cond b None h))) ≡ cond a w (cond b v h)
    four true b h = refl
    four false true h = refl
    four false false h = refl

module _ (K Kr K1 K2 K3 K4 : Keyspace) (s d : Bytes) (v w : Option Value) (apart : same s d ≡ false) where
  pub stays : Kr ≡ K → K1 ≡ with_held Kr s None → held K1 d ≡ held K d
  stays kr k1 = ap (λ k. held k d) k1 ∙ held_other Kr s d None apart ∙ ap (λ k. held k d) kr

  pub free_source : K1 ≡ with_held Kr s None → K2 ≡ with_held K1 d None → held K2 s ≡ None
  free_source k1 k2 = ap (λ k. held k s) k2 ∙ held_other K1 d s None (same_turned s d apart) ∙ ap (λ k. held k s) k1 ∙ held_same Kr s None

  pub free_destination : K2 ≡ with_held K1 d None → K3 ≡ with_held K2 s v → held K3 d ≡ None
  free_destination k2 k3 = ap (λ k. held k d) k3 ∙ held_other K2 s d v apart ∙ ap (λ k. held k d) k2 ∙ held_same K1 d None

  pub put_both : Kr ≡ K → K1 ≡ with_held Kr s None → K2 ≡ with_held K1 d None → K3 ≡ with_held K2 s v → K4 ≡ with_held K3 d w → K4 ≡ with_held (with_held K s v) d w
  put_both kr k1 k2 k3 k4 =
      k4 ∙ ap (λ k. with_held k d w) (k3 ∙ ap (λ k. with_held k s v) (k2 ∙ ap (λ k. with_held k d None) (k1 ∙ ap (λ k. with_held k s None) kr)))
      ∙ through K s d v w

pub both_back : (K after : Keyspace) (s d : Bytes) (v w : Option Value) → after ≡ with_held (with_held K s v) d w → held K s ≡ v → held K d ≡ w → after ≡ K
both_back K after s d v w left at_s at_d = left ∙ ap (λ k. with_held k d w) (put_back K s v at_s) ∙ put_back K d w at_d

pub one_over : (K Kr K1 K2 : Keyspace) (s : Bytes) (w : Option Value) → Kr ≡ K → K1 ≡ with_held Kr s None → K2 ≡ with_held K1 s w → K2 ≡ with_held K s w
one_over K Kr K1 K2 s w kr k1 k2 = k2 ∙ ap (λ k. with_held k s w) (k1 ∙ ap (λ k. with_held k s None) kr) ∙ over K s None w

-- ---- what is put back

-- a list that was there, or an empty one for none
pub as_before : (h : Option Value) (there : Bool) (xs : List Bytes) → elements h ≡ Some xs → there ≡ is_some h → h ≡ put_as there xs
as_before None there xs e is = sym (ap (λ b. put_as b xs) is ∙ none xs e)
  where
    none : (xs : List Bytes) → Some [] ≡ Some xs → put_as false xs ≡ None
    none [] e = refl
    none (x ∷ xs) e = cc
as_before (Some (Value.Elements ys)) there xs e is = sym (ap (λ b. put_as b xs) is ∙ some xs e)
  where
    some : (xs : List Bytes) → Some ys ≡ Some xs → put_as true xs ≡ Some (Value.Elements ys)
    some xs e = cc
as_before (Some (Value.Str b)) there xs e is = cc
as_before (Some (Value.Hash b)) there xs e is = cc
as_before (Some (Value.Set b)) there xs e is = cc

pub filled_before : (h : Option Value) (xs : List Bytes) → IsFilled h → elements h ≡ Some xs → h ≡ put_as false xs
filled_before h xs filled e =
    filled.2 ∙ ap (put_as false) (same_list (sym (ap elements filled.2) ∙ e))
  where
    same_list : {ys zs : List Bytes} → Some ys ≡ Some zs → ys ≡ zs
    same_list e = cc

pub filled_list : (h : Option Value) (xs : List Bytes) → IsFilled h → elements h ≡ Some xs → h ≡ Some (Value.Elements xs)
filled_list h xs filled e = filled.2 ∙ ap (λ l. Some (Value.Elements l)) (same_list (sym (ap elements filled.2) ∙ e))
  where
    same_list : {ys zs : List Bytes} → Some ys ≡ Some zs → ys ≡ zs
    same_list e = cc

pub not_put : (K : Keyspace) (key : Bytes) (keep : Bool) (xs : List Bytes) → keep ≡ false → xs ≡ [] → held K key ≡ None → K ≡ with_held K key (put_as keep xs)
not_put K key true xs n e free = cc
not_put K key false xs n e free = sym (put_back K key (put_as false xs) (free ∙ sym (ap (put_as false) e)))

pub put_given : (there : Bool) (to : Side) (x : Bytes) (ys : List Bytes) → put_as there (given to x ys) ≡ Some (Value.Elements (given to x ys))
put_given true to x ys = refl
put_given false Left x ys = refl
put_given false Right x [] = refl
put_given false Right x (y ∷ ys) = refl

-- ---- LMOVE

settled_stored : (xs : List Bytes) (v w : Option Value) → settled (stored xs) v ≡ settled (stored xs) w
settled_stored [] v w = refl
settled_stored (x ∷ xs) v w = refl

settled_given : (to : Side) (x : Bytes) (ys : List Bytes) (v : Option Value) → settled (stored (given to x ys)) v ≡ Some (Value.Elements (given to x ys))
settled_given Left x ys v = refl
settled_given Right x [] v = refl
settled_given Right x (y ∷ ys) v = refl

taken_twice : (from : Side) (xs : List Bytes) → taken from (taken from xs) ≡ xs
taken_twice Left xs = refl
taken_twice Right xs = reverse-reverse xs

pub elements_stored : (xs : List Bytes) → elements (settled (stored xs) None) ≡ Some xs
elements_stored [] = refl
elements_stored (x ∷ xs) = refl

pub lmove_is : (s d : Bytes) (from to : Side) (K : Keyspace) (xs left ys : List Bytes) (x : Bytes) → held K s ≡ Some (Value.Elements xs) → taken from xs ≡ x ∷ taken from left
    → elements (held (with_held K s (put_as false left)) d) ≡ Some ys
    → lmove s d from to K ≡ (Bulk x, with_held (with_held K s (put_as false left)) d (Some (Value.Elements (given to x ys))))
lmove_is s d from to K xs left ys x at_s takes at_d =
    ap (λ v. sent s d from to K (elements v)) at_s
    ∙ ap (leaves s d from to K) takes
    ∙ ap (λ l. received d to x K (with_held K s (settled (stored l) (held K s))) (elements (held (with_held K s (settled (stored l) (held K s))) d))) (taken_twice from left)
    ∙ ap (λ v. received d to x K (with_held K s v) (elements (held (with_held K s v) d))) (settled_stored left (held K s) None)
    ∙ ap (received d to x K (with_held K s (put_as false left))) at_d
    ∙ ap (λ v. (Bulk x, with_held (with_held K s (put_as false left)) d v)) (settled_given to x ys (held (with_held K s (put_as false left)) d))

some_of : (l : List Bytes) → 0 < length l → (y : Bytes) × (ys : List Bytes) × (l ≡ y ∷ ys)
some_of [] h = absurd (omega arith)
some_of (y ∷ ys) h = (y, ys, refl)

some_taken : (from : Side) (x : Bytes) (xs : List Bytes) → (y : Bytes) × (ys : List Bytes) × (taken from (x ∷ xs) ≡ y ∷ ys)
some_taken Left x xs = (x, xs, refl)
some_taken Right x xs = some_of (reverse (x ∷ xs)) (omega (arith, length-reverse (x ∷ xs)))

-- the destination holds another kind
pub lmove_refused : (s d : Bytes) (from to : Side) (K : Keyspace) → IsFilled (held K s) → same s d ≡ false → elements (held K d) ≡ None → lmove s d from to K ≡ (Error WrongKind, K)
lmove_refused s d from to K filled apart other =
    let some : (y : Bytes) × (ys : List Bytes) × (taken from (filled.0 ∷ filled.1) ≡ y ∷ ys) = some_taken from filled.0 filled.1 in
    let v : Option Value = settled (stored (taken from some.1)) (held K s) in
    ap (λ h. sent s d from to K (elements h)) filled.2
    ∙ ap (leaves s d from to K) some.2
    ∙ ap (received d to some.0 K (with_held K s v)) (ap elements (held_other K s d v apart) ∙ other)

pub passed : (s d : Bytes) (from to : Side) (K after : Keyspace) (there : Bool) (xs left ys now : List Bytes) (bytes : Bytes) → same s d ≡ false → IsFilled (held K s) → elements (held K s) ≡ Some xs → elements (held K d) ≡ Some ys
    → after ≡ with_held (with_held K s (put_as false left)) d (put_as there now) → Passes from to xs left ys now bytes → Gives (lmove s d from to K) after bytes
passed s d from to K after there xs left ys now bytes apart filled at_s at_d put p =
    let is : lmove s d from to K ≡ (Bulk p.element, with_held (with_held K s (put_as false left)) d (Some (Value.Elements (given to p.element ys)))) =
    lmove_is s d from to K xs left ys p.element (filled_list (held K s) xs filled at_s) p.takes (ap elements (held_other K s d (put_as false left) apart) ∙ at_d) in
    subst (λ m. Gives m after bytes) (sym is)
    (record {
      leaves = put ∙ ap (with_held (with_held K s (put_as false left)) d) (ap (put_as there) p.gives ∙ put_given there to p.element ys);
      says = p.says;
    })

pub turned : (s : Bytes) (from to : Side) (K after : Keyspace) (xs now : List Bytes) (bytes : Bytes) → IsFilled (held K s) → elements (held K s) ≡ Some xs
    → after ≡ with_held K s (Some (Value.Elements now)) → Turns from to xs now bytes → Gives (lmove s s from to K) after bytes
turned s from to K after xs now bytes filled at_s put t =
    let p : Passes from to xs t.left t.left now bytes = t.passes in
    let is : lmove s s from to K ≡ (Bulk p.element, with_held (with_held K s (put_as false t.left)) s (Some (Value.Elements (given to p.element t.left)))) =
    lmove_is s s from to K xs t.left t.left p.element (filled_list (held K s) xs filled at_s) p.takes (ap elements (held_same K s (put_as false t.left)) ∙ elements_stored t.left) in
    subst (λ m. Gives m after bytes) (sym is)
    (record {
      leaves = put ∙ ap (λ l. with_held K s (Some (Value.Elements l))) p.gives ∙ sym (over K s (put_as false t.left) (Some (Value.Elements (given to p.element t.left))));
      says = p.says;
    })
