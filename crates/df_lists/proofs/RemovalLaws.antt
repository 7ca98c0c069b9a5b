-- How many elements a removal takes, and what it leaves.
use Rattle.std.proofs.Common.{◌≡◌, ℕ, zero, suc, ◌+◌, ◌-◌, ◌<◌, ◌≤◌, true, false, if◌then◌else◌, List, [], ◌∷◌, length, reverse, drop, refl, sym, ap, ◌∙◌, arith}
use Rattle.std.specs.Prelude.{ℤ, pos, negsuc, Some}
use Rattle.std.proofs.lemmas.List.{length-reverse, length-drop, reverse-reverse}
use Rattle.df_model.specs.Values.{Bytes}
use Rattle.df_model.specs.Words.{same}
use Rattle.df_model.specs.Meaning.Lists.{without_first, without, lrem, ltrim, stored}
use Rattle.df_model.specs.Spared.{Spared}
use Rattle.df_model.specs.Ranges as ranges
use Rattle.df_model.specs.Outcomes.{count, ok}
use Rattle.df_model.specs.Replies.{encoding_of}
use Rattle.df_values.specs.declared.value.Value.TheVariants as values
use Rattle.df_values.specs.declared.edit.Edit.TheVariants.{RemoveEqual, Trim}
use Rattle.df_values.specs.declared.change.Change.{Change}
use Rattle.df_values.specs.Prepares.{Makes}
use Rattle.df_lists.specs.Resized.{resized}
use Rattle.df_lists.proofs.RangeLaws.{length-range, stop_within, range_all}
use Rattle.df_lists.proofs.ResizeLaws.{resized_gives}
use Rattle.df_list.proofs.TurnLaws.{without_all}

-- ---- the count

met_one : (k : ℕ) (v x : Bytes) (xs : List Bytes) → 0 < k → same x v ≡ true → without_first k v (x ∷ xs) ≡ without_first (k - 1) v xs
met_one zero v x xs some is = absurd (omega arith)
met_one (suc k) v x xs some is = let one : k ≡ suc k - 1 = omega arith in rw is (ap (λ n. without_first n v xs) one)

passed_one : (k : ℕ) (v x : Bytes) (xs : List Bytes) → same x v ≡ false → without_first k v (x ∷ xs) ≡ x ∷ without_first k v xs
passed_one zero v x xs is = refl
passed_one (suc k) v x xs is = rw is refl

pub count_met : (met most at total : ℕ) (v x : Bytes) (ys zs : List Bytes) → met < most → ys ≡ x ∷ zs → same x v ≡ true
    → met + total ≡ at + length (without_first (most - met) v ys) → met + 1 + total ≡ at + 1 + length (without_first (most - (met + 1)) v zs)
count_met met most at total v x ys zs more next is so_far =
    let one : without_first (most - met) v ys ≡ without_first (most - met - 1) v zs = ap (without_first (most - met) v) next ∙ met_one (most - met) v x zs (omega arith) is in
    let wanted : most - met - 1 ≡ most - (met + 1) = omega arith in
    let fewer : length (without_first (most - met - 1) v zs) ≡ length (without_first (most - (met + 1)) v zs) = ap (λ n. length (without_first n v zs)) wanted in
    omega (arith, so_far, ap length one, fewer)

pub count_passed : (met most at total : ℕ) (v x : Bytes) (ys zs : List Bytes) → ys ≡ x ∷ zs → same x v ≡ false
    → met + total ≡ at + length (without_first (most - met) v ys) → met + total ≡ at + 1 + length (without_first (most - met) v zs)
count_passed met most at total v x ys zs next is so_far =
    let one : without_first (most - met) v ys ≡ x ∷ without_first (most - met) v zs = ap (without_first (most - met) v) next ∙ passed_one (most - met) v x zs is in
    omega (arith, so_far, ap length one)

none_of_none : (k : ℕ) (v : Bytes) → without_first k v [] ≡ []
none_of_none zero v = refl
none_of_none (suc k) v = refl

-- none is wanted any more
pub count_full : (met most at total : ℕ) (v : Bytes) (xs : List Bytes) → met ≡ most → at ≤ length xs
    → met + total ≡ at + length (without_first (most - met) v (drop at xs)) → met + total ≡ length xs
count_full met most at total v xs full within so_far =
    let wanted : most - met ≡ 0 = omega arith in
    let none : length (without_first (most - met) v (drop at xs)) ≡ length (drop at xs) = ap (λ n. length (without_first n v (drop at xs))) wanted in
    omega (arith, so_far, none, length-drop at xs)

-- none is left
pub count_done : (met most at total : ℕ) (v : Bytes) (xs : List Bytes) → at ≡ length xs
    → met + total ≡ at + length (without_first (most - met) v (drop at xs)) → met + total ≡ length xs
count_done met most at total v xs end so_far = past (drop at xs) (omega (arith, length-drop at xs, end)) so_far
  where
    past : (ys : List Bytes) → length ys ≡ 0 → met + total ≡ at + length (without_first (most - met) v ys) → met + total ≡ length xs
    past [] none counted = omega (arith, counted, ap length (none_of_none (most - met) v), end)
    past (y ∷ ys) none counted = absurd (omega arith)

-- ---- what is left

fewer : (n : ℕ) (v : Bytes) (xs : List Bytes) → length (without_first n v xs) ≤ length xs
fewer zero v xs = omega arith
fewer (suc n) v [] = omega arith
fewer (suc n) v (x ∷ xs) =
    elim (same x v) as (λ b. length (if b then without_first n v xs else x ∷ without_first (suc n) v xs) ≤ suc (length xs)) [
      | true ↦ omega (arith, fewer n v xs)
      | false ↦ omega (arith, fewer (suc n) v xs)
    ]

first_same : (n : ℕ) (v : Bytes) (xs : List Bytes) → length (without_first n v xs) ≡ length xs → without_first n v xs ≡ xs
first_same zero v xs = λ all. refl
first_same (suc n) v [] = λ all. refl
first_same (suc n) v (x ∷ xs) =
    elim (same x v) as (λ b. length (if b then without_first n v xs else x ∷ without_first (suc n) v xs) ≡ suc (length xs) → (if b then without_first n v xs else x ∷ without_first (suc n) v xs) ≡ x ∷ xs) [
      | true ↦ λ all. absurd (omega (arith, all, fewer n v xs))
      | false ↦ λ all. ap (λ ys. x ∷ ys) (first_same (suc n) v xs (omega (arith, all)))
    ]

-- a removal that leaves as many elements leaves the list
pub without_same : (n : ℤ) (v : Bytes) (xs : List Bytes) → length (without n v xs) ≡ length xs → without n v xs ≡ xs
without_same (pos zero) v xs all =
    let is = without_all (length xs) v xs (omega arith) in
    sym is ∙ first_same (length xs) v xs (ap length is ∙ all)
without_same (pos (suc n)) v xs all = first_same (suc n) v xs all
without_same (negsuc n) v xs all =
    ap reverse (first_same (suc n) v (reverse xs) (sym (length-reverse (without_first (suc n) v (reverse xs))) ∙ all ∙ sym (length-reverse xs))) ∙ reverse-reverse xs

-- with a count of 0 all of them leave
pub removed_all : (removed most : ℕ) (n : ℤ) (v : Bytes) (xs : List Bytes) → n ≡ pos 0 → most ≡ length xs
    → removed + length (without_first most v xs) ≡ length xs → removed + length (without n v xs) ≡ length xs
removed_all removed most n v xs none all counted =
    ap (λ ys. removed + length ys) (ap (λ m. without m v xs) none ∙ sym (without_all most v xs (omega arith))) ∙ counted

pub remove_gives : (n : ℤ) (v : Bytes) (list : Spared Bytes) (removed before after : ℕ) (bytes : Bytes) (made : Change)
    → removed + length (without n v list.items) ≡ length list.items → before ≡ length list.items → after ≡ before - removed
    → bytes ≡ encoding_of (count removed) → made ≡ resized (RemoveEqual v n) before after
    → Makes (lrem n v list.items) (Some (values.List list)) bytes made
remove_gives n v list removed before after bytes made counted was left replies makes =
    let gone : removed ≡ length list.items - length (without n v list.items) = omega arith in
    resized_gives (lrem n v list.items) (count removed) list (without n v list.items) (RemoveEqual v n) before after bytes made
    (ap (λ m. (count m, stored (without n v list.items))) (sym gone)) replies makes was (omega arith) refl tt (without_same n v list.items)

pub trim_gives : (from to : ℤ) (list : Spared Bytes) (before after : ℕ) (bytes : Bytes) (made : Change)
    → before ≡ length list.items → after ≡ ranges.stop to before - ranges.start from before
    → bytes ≡ encoding_of ok → made ≡ resized (Trim from to) before after
    → Makes (ltrim from to list.items) (Some (values.List list)) bytes made
trim_gives from to list before after bytes made was left replies makes =
    let n : ℕ = length list.items in
    resized_gives (ltrim from to list.items) ok list (ranges.ranged from to list.items) (Trim from to) before after bytes made
    refl replies makes was
    (left ∙ ap (λ m. ranges.stop to m - ranges.start from m) was ∙ sym (length-range (ranges.start from n) (ranges.stop to n) list.items (stop_within to n)))
    refl tt (range_all (ranges.start from n) (ranges.stop to n) list.items (stop_within to n))
