-- What a change of one part does to a list's filters, and to the list that holds it.
use Rattle.std.proofs.Common.{◌≡◌, ℕ, zero, suc, ◌+◌, ◌<◌, ◌≤◌, List, [], ◌∷◌, ◌++◌, length, get_or, take, drop, set, Bool, refl, ap, sym, subst, ◌∙◌, arith, append_assoc, length-append}
use Rattle.std.specs.List.{filter, flat_map, remove}
use Rattle.std.proofs.lemmas.List.Elements.{filter-append}
use Rattle.std.proofs.lemmas.List.{append-nil}
use Rattle.df_segment.specs.Entries.{Slot, alter}
use Rattle.df_segment.specs.Changes.{Changes}
use Rattle.df_segment.proofs.ListLaws.{parted, flat_map_parted, flat_map_set, empty_of}

pub push_changes : {X : Type 0} (xs : List X) (x : X) → Changes xs (xs ++ x ∷ []) [] (x ∷ [])
push_changes xs x = record { before = xs; behind = []; old_is = sym (append-nil xs); new_is = refl }

pub remove_changes : {X : Type 0} (xs : List X) (i : ℕ) (x : X) → i < length xs → x ≡ get_or xs i x → Changes xs (remove xs i) (x ∷ []) []
remove_changes xs i x w is = record {
  before = take i xs;
  behind = drop (suc i) xs;
  old_is = parted x xs i w ∙ ap (λ y. take i xs ++ (y ∷ drop (suc i) xs)) (sym is);
  new_is = refl;
}

pub alter_changes : {V : Type 0} (f : Slot V → Slot V) (xs : List (Slot V)) (i : ℕ) (x : Slot V) → i < length xs → x ≡ get_or xs i x
    → Changes xs (alter f i xs) (x ∷ []) (f x ∷ [])
alter_changes f [] i x w is = absurd (omega arith)
alter_changes f (y ∷ xs) zero x w is = record { before = []; behind = xs; old_is = ap (λ z. z ∷ xs) (sym is); new_is = ap (λ z. f z ∷ xs) (sym is) }
alter_changes f (y ∷ xs) (suc i) x w is =
    let c = alter_changes f xs i x (omega arith) is in
    record { before = y ∷ c.before; behind = c.behind; old_is = ap (λ zs. y ∷ zs) c.old_is; new_is = ap (λ zs. y ∷ zs) c.new_is }

grown : {X : Type 0} (l b x a r : List X) → l ++ ((b ++ (x ++ a)) ++ r) ≡ (l ++ b) ++ (x ++ (a ++ r))
grown l b x a r = ap (λ zs. l ++ zs) (append_assoc b (x ++ a) r ∙ ap (λ zs. b ++ zs) (append_assoc x a r)) ∙ sym (append_assoc l b (x ++ (a ++ r)))

-- in a longer list
pub change_within : {X : Type 0} {xs ys out into : List X} (left right : List X) → Changes xs ys out into
    → Changes (left ++ (xs ++ right)) (left ++ (ys ++ right)) out into
change_within {X} {xs} {ys} {out} {into} left right c = record {
  before = left ++ c.before;
  behind = c.behind ++ right;
  old_is = ap (λ (zs : List X). left ++ (zs ++ right)) c.old_is ∙ grown left c.before out c.behind right;
  new_is = ap (λ (zs : List X). left ++ (zs ++ right)) c.new_is ∙ grown left c.before into c.behind right;
}

-- in a part of a flat map
pub change_in_part : {X A : Type 0} (f : X → List A) (d : X) (l : List X) (i : ℕ) (b : X) (out into : List A) → i < length l
    → Changes (f (get_or l i d)) (f b) out into → Changes (flat_map f l) (flat_map f (set l i b)) out into
change_in_part f d l i b out into w c =
    subst (λ zs. Changes zs (flat_map f (set l i b)) out into) (sym (flat_map_parted f d l i w))
    (subst (λ zs. Changes (flat_map f (take i l) ++ (f (get_or l i d) ++ flat_map f (drop (suc i) l))) zs out into) (sym (flat_map_set f l i b w))
    (change_within (flat_map f (take i l)) (flat_map f (drop (suc i) l)) c))

-- what a filter keeps, before and after
pub filter_parts : {X : Type 0} (p : X → Bool) (b x a : List X)
    → filter p (b ++ (x ++ a)) ≡ filter p b ++ (filter p x ++ filter p a)
filter_parts p b x a = filter-append p b (x ++ a) ∙ ap (λ zs. filter p b ++ zs) (filter-append p x a)

pub length_change : {X : Type 0} (p : X → Bool) {xs ys out into : List X} → Changes xs ys out into
    → length (filter p ys) + length (filter p out) ≡ length (filter p xs) + length (filter p into)
length_change p {xs} {ys} {out} {into} c =
    let o = ap (λ zs. length (filter p zs)) c.old_is in
    let n = ap (λ zs. length (filter p zs)) c.new_is in
    let po = ap length (filter_parts p c.before out c.behind) in
    let pn = ap length (filter_parts p c.before into c.behind) in
    let a = length-append (filter p c.before) (filter p out ++ filter p c.behind) in
    let b = length-append (filter p out) (filter p c.behind) in
    let d = length-append (filter p c.before) (filter p into ++ filter p c.behind) in
    let e = length-append (filter p into) (filter p c.behind) in
    omega arith

-- where nothing passes that was there or came, nothing passes
pub none_after : {X : Type 0} (p : X → Bool) {xs ys out into : List X} → Changes xs ys out into
    → filter p xs ≡ [] → filter p into ≡ [] → filter p ys ≡ []
none_after p {xs} {ys} {out} {into} c none fresh =
    empty_of (filter p ys) (let e = length_change p c in let f = ap length none in let g = ap length fresh in omega arith)

-- a filter that keeps nothing of the part that goes and of the part that comes keeps what it kept
pub others_stay : {X : Type 0} (p : X → Bool) {xs ys out into : List X} → Changes xs ys out into
    → filter p out ≡ [] → filter p into ≡ [] → filter p ys ≡ filter p xs
others_stay p {xs} {ys} {out} {into} c o i =
    ap (filter p) c.new_is ∙ filter_parts p c.before into c.behind
    ∙ ap (λ zs. filter p c.before ++ (zs ++ filter p c.behind)) (i ∙ sym o)
    ∙ sym (filter_parts p c.before out c.behind) ∙ ap (filter p) (sym c.old_is)

alone : {X : Type 0} (a x y b : List X) → length (a ++ (x ++ b)) ≤ length x → a ++ (y ++ b) ≡ y
alone [] x y [] h = append-nil y
alone [] x y (z ∷ b) h = absurd (let e = length-append x (z ∷ b) in omega arith)
alone (z ∷ a) x y b h = absurd (let e = length-append (z ∷ a) (x ++ b) in let f = length-append x b in omega arith)

-- where all that a filter kept was in the part that goes, it now keeps what comes
pub own_changes : {X : Type 0} (p : X → Bool) {xs ys out into : List X} → Changes xs ys out into
    → length (filter p xs) ≤ length (filter p out) → filter p ys ≡ filter p into
own_changes p {xs} {ys} {out} {into} c h =
    ap (filter p) c.new_is ∙ filter_parts p c.before into c.behind
    ∙ alone (filter p c.before) (filter p out) (filter p into) (filter p c.behind)
    (subst (λ zs. length zs ≤ length (filter p out)) (ap (filter p) c.old_is ∙ filter_parts p c.before out c.behind) h)
