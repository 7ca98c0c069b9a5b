-- The pops from either end: RPOP read at the end of the list, where its row is that of LPOP on the reverse.
use Rattle.std.proofs.Common.{◌≡◌, ℕ, zero, suc, ◌-◌, ◌<◌, List, [], ◌∷◌, ◌++◌, length, reverse, take, drop, min, refl, sym, ap, ◌∙◌, arith}
use Rattle.std.specs.Prelude.{pos, Some, None, slice_get}
use Rattle.std.proofs.lemmas.List.{length-reverse, length-drop, length-take, reverse-append, reverse-reverse, take-append-drop, take_at}
use Rattle.df_model.specs.Values.{Bytes}
use Rattle.df_model.specs.Values as plain
use Rattle.df_model.specs.Spared.{Spared}
use Rattle.df_model.specs.Outcomes.{bulks}
use Rattle.df_model.specs.Outcomes as outcomes
use Rattle.df_model.specs.Meaning.Lists.{stored, rpop}
use Rattle.df_model.specs.Replies.{encoding_of}
use Rattle.df_model.specs.declared.command.Side.{Side}
use Rattle.df_model.specs.declared.command.Side.TheVariants.{Left, Right}
use Rattle.df_model.specs.declared.reply.Reply.TheVariants.{Bulk}
use Rattle.df_values.specs.declared.value.Value.TheVariants as values
use Rattle.df_values.specs.declared.edit.Edit.{Edit}
use Rattle.df_values.specs.Edits.{edited, IsPreparedOn}
use Rattle.df_values.specs.declared.change.Change.{Change}
use Rattle.df_values.specs.Prepares.{Makes}
use Rattle.df_lists.specs.Ends.{from_end, pop, pop_edit}
use Rattle.df_lists.specs.Resized.{resized}
use Rattle.df_lists.proofs.ResizeLaws.{resized_gives, stored_put}
use Rattle.df_lists.proofs.RangeLaws.{take_all, length-from_end, next_of}

-- what is left where n elements went at this end
abbrev popped : Side → ℕ → List Bytes → List Bytes
popped Left n xs = drop n xs
popped Right n xs = take (length xs - n) xs

length-popped : (side : Side) (n : ℕ) (xs : List Bytes) → length (popped side n xs) ≡ length xs - n
length-popped Left n xs = length-drop n xs
length-popped Right n xs = length-take (length xs - n) xs ∙ omega arith

edit_pops : (side : Side) (n : ℕ) (xs : List Bytes) → edited (pop_edit side n) (plain.Value.Elements xs) ≡ plain.Value.Elements (popped side n xs)
edit_pops Left n xs = refl
edit_pops Right n xs = refl

pop_fits : (side : Side) (n : ℕ) (list : Spared Bytes) → IsPreparedOn (pop_edit side n) (values.List list)
pop_fits Left n list = tt
pop_fits Right n list = tt

-- ---- the same from the end

behind : (n : ℕ) (xs : List Bytes) → reverse (drop n (reverse xs)) ≡ take (length xs - n) xs
behind n xs =
    let zs : List Bytes = reverse xs in
    let parts : xs ≡ reverse (drop n zs) ++ reverse (take n zs) = sym (reverse-reverse xs) ∙ ap reverse (sym (take-append-drop n zs)) ∙ reverse-append (take n zs) (drop n zs) in
    let long : length (reverse (drop n zs)) ≡ length xs - n = length-reverse (drop n zs) ∙ length-drop n zs ∙ ap (λ m. m - n) (length-reverse xs) in
    sym (ap (take (length xs - n)) parts ∙ take_at (reverse (drop n zs)) (reverse (take n zs)) (length xs - n) long)

turned_put : (y : Bytes) (rest : List Bytes) → outcomes.Change.Put (plain.Value.Elements (reverse (y ∷ rest))) ≡ stored (reverse (y ∷ rest))
turned_put y rest = sym (stored_put (reverse (y ∷ rest)) (omega (arith, length-reverse (y ∷ rest))))

rpop_one : (xs rest : List Bytes) (x : Bytes) → reverse xs ≡ x ∷ rest → rpop None xs ≡ (Bulk x, stored (reverse rest))
rpop_one xs [] x is = rw is refl
rpop_one xs (y ∷ rest) x is = rw is (ap (λ change. (Bulk x, change)) (turned_put y rest))

rpop_many : (n : ℕ) (xs zs left : List Bytes) (z : Bytes) → reverse xs ≡ z ∷ zs → drop n (z ∷ zs) ≡ left → rpop (Some (pos n)) xs ≡ (bulks (take n (z ∷ zs)), stored (reverse left))
rpop_many n xs zs [] z is leaves = rw (is, leaves) refl
rpop_many n xs zs (y ∷ left) z is leaves = rw (is, leaves) (ap (λ change. (bulks (take n (z ∷ zs)), change)) (turned_put y left))

-- RPOP of a list whose last element is x
pub rpop_last : (xs : List Bytes) (x : Bytes) → rpop None (xs ++ x ∷ []) ≡ (Bulk x, stored xs)
rpop_last xs x =
    rpop_one (xs ++ x ∷ []) (reverse xs) x (reverse-append xs (x ∷ [])) ∙ ap (λ ys. (Bulk x, stored ys)) (reverse-reverse xs)

-- ---- rows

one_row : (side : Side) (xs rest : List Bytes) (x : Bytes) → from_end side xs ≡ x ∷ rest → pop side None xs ≡ (Bulk x, stored (popped side 1 xs))
one_row Left xs rest x is = rw is refl
one_row Right xs rest x is = rpop_one xs rest x is ∙ ap (λ ys. (Bulk x, stored ys)) (ap (λ ys. reverse (drop 1 ys)) (sym is) ∙ behind 1 xs)

many_row : (side : Side) (n : ℕ) (xs zs : List Bytes) (z : Bytes) → from_end side xs ≡ z ∷ zs → pop side (Some (pos n)) xs ≡ (bulks (take n (from_end side xs)), stored (popped side n xs))
many_row Left n xs zs z is = rw is refl
many_row Right n xs zs z is =
    rpop_many n xs zs (drop n (z ∷ zs)) z is refl
    ∙ ap (λ ys. (bulks (take n ys), stored (reverse (drop n ys)))) (sym is)
    ∙ ap (λ ys. (bulks (take n (reverse xs)), stored ys)) (behind n xs)

-- a list loses no more than it has
least : (n : ℕ) (xs : List Bytes) → (take (min n (length xs)) xs ≡ take n xs) × (drop (min n (length xs)) xs ≡ drop n xs)
least zero xs =
    let none : min 0 (length xs) ≡ 0 = omega arith in
    (ap (λ m. take m xs) none, ap (λ m. drop m xs) none)
least (suc n) [] =
    let none : min (suc n) 0 ≡ 0 = omega arith in
    (ap (λ m. take m []) none, ap (λ m. drop m []) none)
least (suc n) (x ∷ xs) =
    let one : min (suc n) (suc (length xs)) ≡ suc (min n (length xs)) = omega arith in
    (ap (λ m. take m (x ∷ xs)) one ∙ ap (λ ys. x ∷ ys) (least n xs).0, ap (λ m. drop m (x ∷ xs)) one ∙ (least n xs).1)

least_popped : (side : Side) (n : ℕ) (xs : List Bytes) → popped side (min n (length xs)) xs ≡ popped side n xs
least_popped Left n xs = (least n xs).1
least_popped Right n xs = let left : length xs - min n (length xs) ≡ length xs - n = omega arith in ap (λ m. take m xs) left

least_taken : (side : Side) (n m : ℕ) (xs : List Bytes) → m ≡ min n (length xs) → take m (from_end side xs) ≡ take n (from_end side xs)
least_taken side n m xs is =
    ap (λ k. take k (from_end side xs)) (is ∙ ap (min n) (sym (length-from_end side xs))) ∙ (least n (from_end side xs)).0

popped_none : (side : Side) (n : ℕ) (xs : List Bytes) → n ≡ 0 → popped side n xs ≡ xs
popped_none Left n xs none = ap (λ m. drop m xs) none
popped_none Right n xs none = take_all (length xs - n) xs (omega arith)

-- ---- what the prepared commands promise

pub one_gives : (side : Side) (list : Spared Bytes) (rest : List Bytes) (x : Bytes) (before after : ℕ) (edit : Edit) (bytes : Bytes) (made : Change)
    → from_end side list.items ≡ x ∷ rest → before ≡ length list.items → after ≡ before - 1 → edit ≡ pop_edit side 1
    → bytes ≡ encoding_of (Bulk x) → made ≡ resized edit before after
    → Makes (pop side None list.items) (Some (values.List list)) bytes made
one_gives side list rest x before after edit bytes made is was left pops replies makes =
    resized_gives (pop side None list.items) (Bulk x) list (popped side 1 list.items) (pop_edit side 1) before after bytes made
    (one_row side list.items rest x is)
    replies
    (makes ∙ ap (λ e. resized e before after) pops)
    was (omega (arith, length-popped side 1 list.items, was, left)) (edit_pops side 1 list.items) (pop_fits side 1 list)
    (λ same. absurd (omega (arith, same, length-popped side 1 list.items, ap length is, length-from_end side list.items)))

some_first : (xs : List Bytes) → 0 < length xs → (z : Bytes) × ((zs : List Bytes) × (xs ≡ z ∷ zs))
some_first [] some = absurd (omega arith)
some_first (x ∷ xs) some = (x, (xs, refl))

pub many_gives : (side : Side) (list : Spared Bytes) (n m before after : ℕ) (edit : Edit) (bytes : Bytes) (made : Change)
    → 0 < length list.items → before ≡ length list.items → m ≡ min n before → after ≡ before - m → edit ≡ pop_edit side m
    → bytes ≡ encoding_of (bulks (take m (from_end side list.items))) → made ≡ resized edit before after
    → Makes (pop side (Some (pos n)) list.items) (Some (values.List list)) bytes made
many_gives side list n m before after edit bytes made some was least left pops replies makes =
    resized_gives (pop side (Some (pos n)) list.items) (bulks (take n (from_end side list.items))) list (popped side m list.items) (pop_edit side m) before after bytes made
    (many_row side n list.items first.1.0 first.0 first.1.1 ∙ ap (λ ys. (bulks (take n (from_end side list.items)), stored ys)) (sym (least_popped side n list.items) ∙ ap (λ k. popped side k list.items) (sym within)))
    (replies ∙ ap (λ ys. encoding_of (bulks ys)) (least_taken side n m list.items within))
    (makes ∙ ap (λ e. resized e before after) pops)
    was (omega (arith, length-popped side m list.items, was, left)) (edit_pops side m list.items) (pop_fits side m list)
    (λ same. popped_none side m list.items (omega (arith, same, length-popped side m list.items, within)))
  where
    within : m ≡ min n (length list.items)
    within = least ∙ ap (min n) was

    first : (z : Bytes) × ((zs : List Bytes) × (from_end side list.items ≡ z ∷ zs))
    first = some_first (from_end side list.items) (omega (arith, some, length-from_end side list.items))

pub from_some : (side : Side) (xs : List Bytes) (x : Bytes) → slice_get (from_end side xs) 0 ≡ Some x → from_end side xs ≡ x ∷ drop 1 (from_end side xs)
from_some side xs x at = next_of 0 (from_end side xs) x at
