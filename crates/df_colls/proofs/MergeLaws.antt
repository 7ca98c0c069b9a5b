-- Two lists in order, merged: each entry of the second is put among those of the first.
use Rattle.std.proofs.Common.{◌≡◌, ℕ, zero, suc, ◌+◌, ◌<◌, ◌≤◌, List, [], ◌∷◌, ◌++◌, length, get_or, drop, map, refl, sym, ap, subst, ◌∙◌, append_assoc, append-nil, add-one, arith, drop-cons}
use Rattle.std.proofs.lemmas.List.{length-append, get_or_append_left, drop-drop}
use Rattle.std.proofs.Math.ListN.{drop_of_length-le}
use Rattle.std.specs.Prelude.{T}
use Rattle.std.specs.Cmp.Lexicographic.{nat_list_cmp_total}
use Rattle.std.specs.declared.cmp.Ordering.TheVariants.{Less, Equal, Greater}
use Rattle.std.specs.FinMap.{put, is_sorted}
use Rattle.std.specs.FinMap as finmap
use Rattle.df_model.specs.Values.{Bytes, Members}
use Rattle.df_model.specs.Members.{insert, with_all, union}
use Rattle.df_colls.specs.Roomy.{order}
use Rattle.df_colls.specs.Places.{AllAbove, Makes}
use Rattle.df_colls.specs.Merged.{with_put, IsMerged}
use Rattle.df_colls.specs.Runs.{IsFront}
use Rattle.df_colls.proofs.OrderLaws.{second, same_key, flip, above_first, above_lower}
use Rattle.df_colls.proofs.PlaceLaws.{makes}

abbrev Entry : Type 0
Entry = Bytes × Unit {0}

-- an entry below all that are put stays in front
put_behind : (x : Entry) (ns es : List Entry) → AllAbove x.0 ns → with_put ns (x ∷ es) ≡ x ∷ with_put ns es
put_behind x [] es h = refl
put_behind x (n ∷ ns) es h = rw (flip x.0 n.0 Less h.0) (put_behind x ns (put order n.0 n.1 es) h.1)

from_less : (x y : Entry) (ns es : List Entry) → T (is_sorted order (y ∷ ns)) → order x.0 y.0 ≡ Less → with_put (y ∷ ns) (x ∷ es) ≡ x ∷ with_put (y ∷ ns) es
from_less x y ns es s e = put_behind x (y ∷ ns) es (e, above_lower x.0 y.0 ns e (above_first y ns s))

from_equal : (x y : Entry) (ns es : List Entry) → T (is_sorted order (y ∷ ns)) → order x.0 y.0 ≡ Equal → with_put (y ∷ ns) (x ∷ es) ≡ x ∷ with_put ns es
from_equal x y ns es s e =
    rw (flip x.0 y.0 Equal e) (put_behind x ns es (subst (λ k. AllAbove k ns) (sym (same_key x.0 y.0 e)) (above_first y ns s)))

from_greater : (x y : Entry) (ns es : List Entry) → T (is_sorted order (y ∷ ns)) → order x.0 y.0 ≡ Greater → with_put (y ∷ ns) (x ∷ es) ≡ y ∷ with_put ns (x ∷ es)
from_greater x y ns es s e = rw (flip x.0 y.0 Greater e) (put_behind y ns (x ∷ es) (above_first y ns s))

put_among_none : (ns : List Entry) → T (is_sorted order ns) → with_put ns [] ≡ ns
put_among_none [] s = refl
put_among_none (n ∷ ns) s = put_behind n ns [] (above_first n ns s) ∙ ap (λ xs. n ∷ xs) (put_among_none ns (second _ _ s))

sorted_drop : (es : List Entry) (i : ℕ) → T (is_sorted order es) → T (is_sorted order (drop i es))
sorted_drop es zero s = s
sorted_drop [] (suc i) s = s
sorted_drop (e ∷ es) (suc i) s = sorted_drop es i (second _ _ s)

drop_at : (es : List Entry) (i : ℕ) (x : Entry) → i < length es → x ≡ get_or es i x → drop i es ≡ x ∷ drop (i + 1) es
drop_at es i x lt is = rw add-one (drop-cons es i x lt ∙ ap (λ y. y ∷ drop (suc i) es) (sym is))

-- ---- a turn of the loop: out is what is merged so far, and i and j are where the rest of both lists begins

moved : (out new before rest whole : List Entry) (x : Entry) → new ≡ out ++ x ∷ [] → before ≡ x ∷ rest → out ++ before ≡ whole → new ++ rest ≡ whole
moved out new before rest whole x n b w = ap (λ xs. xs ++ rest) n ∙ append_assoc out (x ∷ []) rest ∙ ap (λ xs. out ++ xs) (sym b) ∙ w

module _ (left right out new whole : List Entry) (i j : ℕ) (x y : Entry) where
  -- what stands next in both lists
  abbrev pub Next : Type 0
  Next = T (is_sorted order right) × (i < length left) × (j < length right) × (x ≡ get_or left i x) × (y ≡ get_or right j y) × (out ++ with_put (drop j right) (drop i left) ≡ whole)

  sorted_next : Next → T (is_sorted order (y ∷ drop (j + 1) right))
  sorted_next n = subst (λ xs. T (is_sorted order xs)) (drop_at right j y n.2 n.4) (sorted_drop right j n.0)

  parts : (n : Next) → with_put (drop j right) (drop i left) ≡ with_put (y ∷ drop (j + 1) right) (x ∷ drop (i + 1) left)
  parts n = ap (λ ys. with_put ys (drop i left)) (drop_at right j y n.2 n.4) ∙ ap (with_put (y ∷ drop (j + 1) right)) (drop_at left i x n.1 n.3)

  pub turn_less : Next → order x.0 y.0 ≡ Less → new ≡ out ++ x ∷ [] → new ++ with_put (drop j right) (drop (i + 1) left) ≡ whole
  turn_less n e p =
      moved out new _ _ whole x p (parts n ∙ from_less x y _ _ (sorted_next n) e ∙ ap (λ ys. x ∷ with_put ys (drop (i + 1) left)) (sym (drop_at right j y n.2 n.4))) n.5

  pub turn_equal : Next → order x.0 y.0 ≡ Equal → new ≡ out ++ x ∷ [] → new ++ with_put (drop (j + 1) right) (drop (i + 1) left) ≡ whole
  turn_equal n e p = moved out new _ _ whole x p (parts n ∙ from_equal x y _ _ (sorted_next n) e) n.5

  pub turn_greater : Next → order x.0 y.0 ≡ Greater → new ≡ out ++ y ∷ [] → new ++ with_put (drop (j + 1) right) (drop i left) ≡ whole
  turn_greater n e p =
      moved out new _ _ whole y p (parts n ∙ from_greater x y _ _ (sorted_next n) e ∙ ap (λ xs. y ∷ with_put (drop (j + 1) right) xs) (sym (drop_at left i x n.1 n.3))) n.5

-- ---- what stands next in two runs, and two runs merged

pub next_in : (ours theirs ls rs out new whole : List Entry) (i j : ℕ) (x y : Entry) → T (is_sorted order (theirs ++ rs)) → i < length ours → j < length theirs → x ≡ get_or ours i x → y ≡ get_or theirs j y → out ++ with_put (drop j (theirs ++ rs)) (drop i (ours ++ ls)) ≡ whole → Next (ours ++ ls) (theirs ++ rs) out new whole i j x y
next_in ours theirs ls rs out new whole i j x y s l r xe ye w =
    (s, omega (arith, l, length-append ours ls), omega (arith, r, length-append theirs rs), xe ∙ sym (get_or_append_left ours ls x i l), ye ∙ sym (get_or_append_left theirs rs y j r), w)

pub merged_step : (left right old new ours theirs whole : List Entry) (i j m n : ℕ) → T (is_sorted order right) → IsFront (drop i left) ours → IsFront (drop j right) theirs → IsMerged old new ours theirs m n → old ++ with_put (drop j right) (drop i left) ≡ whole → new ++ with_put (drop (j + n) right) (drop (i + m) left) ≡ whole
merged_step left right old new ours theirs whole i j m n s f g h w =
    ap (λ xs. new ++ with_put xs (drop (i + m) left)) (sym (drop-drop n j right) ∙ ap (drop n) g.1)
    ∙ ap (λ xs. new ++ with_put (drop n (theirs ++ g.0)) xs) (sym (drop-drop m i left) ∙ ap (drop m) f.1)
    ∙ h f.0 g.0 (subst (λ xs. T (is_sorted order xs)) g.1 (sorted_drop right j s))
    ∙ ap (λ xs. old ++ with_put xs (ours ++ f.0)) (sym g.1)
    ∙ ap (λ xs. old ++ with_put (drop j right) xs) (sym f.1)
    ∙ w

-- ---- the end: one list has ended, and what is left of both follows

module _ (left right out all whole : List Entry) (i j : ℕ) where
  abbrev pub Rest : Type 0
  Rest = (out ++ with_put (drop j right) (drop i left) ≡ whole) × (all ≡ (out ++ drop i left) ++ drop j right)

  pub left_ended : T (is_sorted order right) → length left ≤ i → Rest → all ≡ whole
  left_ended s le r =
      let none : drop i left ≡ [] = drop_of_length-le left le in
      r.1 ∙ ap (λ xs. (out ++ xs) ++ drop j right) none ∙ ap (λ xs. xs ++ drop j right) (append-nil out)
      ∙ ap (λ xs. out ++ xs) (sym (ap (with_put (drop j right)) none ∙ put_among_none (drop j right) (sorted_drop right j s))) ∙ r.0

  pub right_ended : length right ≤ j → Rest → all ≡ whole
  right_ended le r =
      let none : drop j right ≡ [] = drop_of_length-le right le in
      r.1 ∙ ap (λ xs. (out ++ drop i left) ++ xs) none ∙ append-nil (out ++ drop i left)
      ∙ ap (λ xs. out ++ xs) (sym (ap (λ ys. with_put ys (drop i left)) none)) ∙ r.0

-- ---- the union

put_all : (ns : List Entry) (s : Members) → finmap.entries (with_all (map (λ e. e.0) ns) s) ≡ with_put ns (finmap.entries s)
put_all [] s = refl
put_all (n ∷ ns) s = put_all ns (insert s n.0) ∙ ap (with_put ns) (finmap.entries-insert nat_list_cmp_total s n.0 tt)

pub united : (s t : Members) (es : List Entry) → es ≡ with_put (finmap.entries t) (finmap.entries s) → Makes es (union s t)
united s t es e = makes es _ (put_all (finmap.entries t) s ∙ sym e)
