-- An element in the place of another, or beside another.
use Rattle.std.proofs.Common.{◌≡◌, ℕ, zero, suc, ◌+◌, ◌<◌, ◌≤◌, Bool, true, false, List, [], ◌∷◌, length, take, drop, length-append, refl, sym, ap, ◌∙◌, inl, inr, arith}
use Rattle.std.specs.Prelude.{Option, Some, None, negsuc, slice_get, slice_set, ◌⊎◌}
use Rattle.std.specs.List.{insert}
use Rattle.std.proofs.lemmas.List.{length-drop, length-take}
use Rattle.std.proofs.Math.ListN.{length-set}
use Rattle.df_model.specs.Spared.{Spared}
use Rattle.df_model.specs.Values as plain
use Rattle.df_model.specs.Outcomes.{count, ok}
use Rattle.df_model.specs.Outcomes as outcomes
use Rattle.df_model.specs.Replies.{encoding_of}
use Rattle.df_model.specs.declared.reply.Reply.TheVariants.{Int}
use Rattle.df_values.specs.declared.value.Value.TheVariants as values
use Rattle.df_values.specs.declared.edit.Edit.TheVariants.{SetAt, InsertAt}
use Rattle.df_values.specs.declared.change.Change.{Change}
use Rattle.df_values.specs.declared.change.Change.TheVariants as changes
use Rattle.df_values.specs.Prepares.{Makes}
use Rattle.df_lists.proofs.ResizeLaws.{gives, suits_edit, suits_keep}
use Rattle.df_model.specs.Values.{Bytes}
use Rattle.df_model.specs.Words.{same}
use Rattle.df_model.specs.Meaning.Lists.{inserted, linsert, stored}
use Rattle.df_model.specs.declared.command.Beside.{Beside}
use Rattle.df_model.specs.declared.command.Beside.TheVariants.{Before, After}
use Rattle.df_lists.specs.Places.{place_of, further, beside_place}

-- ---- the place of the first that equals the pivot

further_further : (n : ℕ) (o : Option ℕ) → further n (further 1 o) ≡ further (n + 1) o
further_further n None = refl
further_further n (Some i) = ap Some (omega arith)

pub not_here : (at : ℕ) (p x : Bytes) (ys zs : List Bytes) (o : Option ℕ) → ys ≡ x ∷ zs → same x p ≡ false → o ≡ further at (place_of p ys) → o ≡ further (at + 1) (place_of p zs)
not_here at p x ys zs o next is so_far =
    so_far ∙ ap (λ ws. further at (place_of p ws)) next ∙ rw is (further_further at (place_of p zs))

pub here : (at : ℕ) (p x : Bytes) (ys zs : List Bytes) (o : Option ℕ) → ys ≡ x ∷ zs → same x p ≡ true → o ≡ further at (place_of p ys) → Some at ≡ o
here at p x ys zs o next is so_far =
    sym (so_far ∙ ap (λ ws. further at (place_of p ws)) next ∙ rw is (ap Some (omega arith)))

-- ---- beside it

further_some : (o : Option ℕ) (i : ℕ) → further 1 o ≡ Some i → (j : ℕ) × (o ≡ Some j) × (i ≡ suc j)
further_some None i is = cc
further_some (Some j) i is = (j, refl, let same : 1 + j ≡ i = cc in omega arith)

further_none : (o : Option ℕ) → further 1 o ≡ None → o ≡ None
further_none None is = refl
further_none (Some j) is = cc

either : (b : Bool) → (b ≡ true) ⊎ (b ≡ false)
either true = inl refl
either false = inr refl

at_first : (beside : Beside) (p v x : Bytes) (xs : List Bytes) (i : ℕ) → same x p ≡ true → 0 ≡ i → inserted beside p v (x ∷ xs) ≡ Some (insert (x ∷ xs) (beside_place beside i) v)
at_first Before p v x xs i met is = rw met (ap (λ k. Some (insert (x ∷ xs) k v)) is)
at_first After p v x xs i met is = rw met (ap (λ k. Some (insert (x ∷ xs) (suc k) v)) is)

at_later : (beside : Beside) (p v x : Bytes) (xs : List Bytes) (i j : ℕ) → same x p ≡ false → suc j ≡ i → inserted beside p v xs ≡ Some (insert xs (beside_place beside j) v)
    → inserted beside p v (x ∷ xs) ≡ Some (insert (x ∷ xs) (beside_place beside i) v)
at_later Before p v x xs i j other is rest = rw (other, rest) (ap (λ k. Some (insert (x ∷ xs) k v)) is)
at_later After p v x xs i j other is rest = rw (other, rest) (ap (λ k. Some (insert (x ∷ xs) (suc k) v)) is)

inserted_some : (beside : Beside) (p v : Bytes) (xs : List Bytes) (i : ℕ) → place_of p xs ≡ Some i → inserted beside p v xs ≡ Some (insert xs (beside_place beside i) v)
inserted_some beside p v [] i is = cc
inserted_some beside p v (x ∷ xs) i is =
    elim (either (same x p)) [
      | inl met ↦ at_first beside p v x xs i met (let here : Some 0 ≡ Some i = rw met at is in cc)
      | inr other ↦
          let there = further_some (place_of p xs) i (rw other at is) in
          at_later beside p v x xs i there.0 other (sym there.2) (inserted_some beside p v xs there.0 there.1)
    ]

inserted_none : (beside : Beside) (p v : Bytes) (xs : List Bytes) → place_of p xs ≡ None → inserted beside p v xs ≡ None
inserted_none beside p v [] is = refl
inserted_none beside p v (x ∷ xs) is =
    elim (either (same x p)) [
      | inl met ↦ absurd (let none : Some 0 ≡ None = rw met at is in cc)
      | inr other ↦ rw (other, inserted_none beside p v xs (further_none (place_of p xs) (rw other at is))) refl
    ]

pub insert_row : (beside : Beside) (p v : Bytes) (xs : List Bytes) (i : ℕ) → place_of p xs ≡ Some i
    → linsert beside p v xs ≡ (count (length (insert xs (beside_place beside i) v)), stored (insert xs (beside_place beside i) v))
insert_row beside p v [] i is = cc
insert_row beside p v (x ∷ xs) i is = rw (inserted_some beside p v (x ∷ xs) i is) refl

pub insert_no_row : (beside : Beside) (p v : Bytes) (xs : List Bytes) → 0 < length xs → place_of p xs ≡ None → linsert beside p v xs ≡ (Int (negsuc 0), outcomes.Change.Keep)
insert_no_row beside p v [] some is = absurd (omega arith)
insert_no_row beside p v (x ∷ xs) some is = rw (inserted_none beside p v (x ∷ xs) is) refl

length-inserted : (xs : List Bytes) (i : ℕ) (v : Bytes) → i ≤ length xs → length (insert xs i v) ≡ length xs + 1
length-inserted xs i v within = omega (arith, length-append (take i xs) (v ∷ drop i xs), length-take i xs, length-drop i xs)

beside_within : (beside : Beside) (i n : ℕ) → i < n → beside_place beside i ≤ n
beside_within Before i n within = omega arith
beside_within After i n within = omega arith

pub insert_gives : (beside : Beside) (p v : Bytes) (xs : List Bytes) (list : Spared Bytes) (i k after : ℕ) (bytes : Bytes) (made : Change)
    → list.items ≡ xs → place_of p xs ≡ Some i → i < length xs → 0 < list.spare → after ≡ length xs + 1 → k ≡ beside_place beside i
    → bytes ≡ encoding_of (count after) → made ≡ changes.Edit (InsertAt k v)
    → Makes (linsert beside p v xs) (Some (values.List list)) bytes made
insert_gives beside p v xs list i k after bytes made same_list found within room more place replies makes =
    gives (linsert beside p v xs) (count (length ys)) (stored ys) (Some (values.List list)) bytes made (changes.Edit (InsertAt (beside_place beside i) v))
    (insert_row beside p v xs i found)
    (replies ∙ ap (λ n. encoding_of (count n)) (more ∙ sym long))
    (makes ∙ ap (λ at. changes.Edit (InsertAt at v)) place)
    (suits_edit list ys (InsertAt (beside_place beside i) v) (omega (arith, long)) (λ e. absurd (omega (arith, long, ap length e, ap length same_list)))
    (ap (λ zs. plain.Value.Elements (insert zs (beside_place beside i) v)) same_list)
    (omega (arith, near, ap length same_list), room))
  where
    ys : List Bytes
    ys = insert xs (beside_place beside i) v

    near : beside_place beside i ≤ length xs
    near = beside_within beside i (length xs) within

    long : length (insert xs (beside_place beside i) v) ≡ length xs + 1
    long = length-inserted xs (beside_place beside i) v near

-- ---- in the place of another

set_same : (xs : List Bytes) (i : ℕ) (v : Bytes) → slice_get xs i ≡ Some v → slice_set xs i v ≡ xs
set_same [] i v at = cc
set_same (x ∷ xs) zero v at = ap (λ y. y ∷ xs) (let e : Some x ≡ Some v = at in cc)
set_same (x ∷ xs) (suc i) v at = ap (λ ys. x ∷ ys) (set_same xs i v at)

get_set : (xs : List Bytes) (i : ℕ) (v : Bytes) → i < length xs → slice_get (slice_set xs i v) i ≡ Some v
get_set [] i v within = absurd (omega arith)
get_set (x ∷ xs) zero v within = refl
get_set (x ∷ xs) (suc i) v within = get_set xs i v (omega arith)

pub set_keeps : (list : Spared Bytes) (i : ℕ) (v : Bytes) (bytes : Bytes) (made : Change) → i < length list.items → slice_get list.items i ≡ Some v
    → bytes ≡ encoding_of ok → made ≡ changes.Keep
    → Makes (ok, stored (slice_set list.items i v)) (Some (values.List list)) bytes made
set_keeps list i v bytes made within at replies makes =
    gives (ok, stored (slice_set list.items i v)) ok (stored (slice_set list.items i v)) (Some (values.List list)) bytes made changes.Keep refl replies makes
    (suits_keep list (slice_set list.items i v) (omega (arith, length-set list.items i v)) (set_same list.items i v at))

pub set_edits : (list : Spared Bytes) (i : ℕ) (v : Bytes) (bytes : Bytes) (made : Change) → i < length list.items → (slice_get list.items i ≡ Some v → ⊥)
    → bytes ≡ encoding_of ok → made ≡ changes.Edit (SetAt i v)
    → Makes (ok, stored (slice_set list.items i v)) (Some (values.List list)) bytes made
set_edits list i v bytes made within other replies makes =
    gives (ok, stored (slice_set list.items i v)) ok (stored (slice_set list.items i v)) (Some (values.List list)) bytes made (changes.Edit (SetAt i v)) refl replies makes
    (suits_edit list (slice_set list.items i v) (SetAt i v) (omega (arith, length-set list.items i v))
    (λ e. other (sym (ap (λ ys. slice_get ys i) e) ∙ get_set list.items i v within)) refl within)
