-- Rows of lists put lists of words, and no empty one.
use Rattle.std.proofs.Common.{◌≡◌, ℕ, zero, suc, Bool, true, false, List, [], ◌∷◌, ◌++◌, length, reverse, take, drop, set, refl, arith}
use Rattle.std.proofs.lemmas.List.{length-reverse}
use Rattle.std.specs.Prelude.{Option, Some, None, ℤ, pos, negsuc, nat_abs, not}
use Rattle.std.specs.List.{AllByRecursion}
use Rattle.df_model.specs.Values.{Bytes, Value}
use Rattle.df_model.specs.Words.{same}
use Rattle.df_model.specs.Framing.{IsWord}
use Rattle.df_model.specs.Ranges.{place, start, stop, ranged}
use Rattle.df_model.specs.Outcomes.{Outcome, Change}
use Rattle.df_model.specs.Meaning.Lists as lists
use Rattle.df_model.specs.declared.command.Beside.{Beside}
use Rattle.df_model.specs.declared.command.Beside.TheVariants.{Before, After}
use Rattle.df_limits.proofs.ListLaws.{all_append, all_reverse, all_take, all_drop, all_set, all_of_two, all_filter}
use Rattle.df_limits.proofs.RowLaws.{HeldWithin, ChangeWithin}

abbrev pub Words : List Bytes → Type 0
Words = AllByRecursion IsWord

pub stored_within : (xs : List Bytes) → Words xs → ChangeWithin (lists.stored xs)
stored_within [] all = tt
stored_within (x ∷ xs) all = (omega arith, all)

pub on_list : (row : List Bytes → Outcome) → ((xs : List Bytes) → Words xs → ChangeWithin (row xs).1)
    → (v : Option Value) → HeldWithin v → ChangeWithin (lists.changes row v).1
on_list row h None within = h [] tt
on_list row h (Some (Value.Elements xs)) within = h xs within.1
on_list row h (Some (Value.Str b)) within = tt
on_list row h (Some (Value.Hash b)) within = tt
on_list row h (Some (Value.Set b)) within = tt

pub lpush_within : (vs : List Bytes) → Words vs → (xs : List Bytes) → Words xs → ChangeWithin (lists.lpush vs xs).1
lpush_within vs new xs all = stored_within (reverse vs ++ xs) (all_append IsWord (reverse vs) xs (all_reverse IsWord vs new) all)

pub rpush_within : (vs : List Bytes) → Words vs → (xs : List Bytes) → Words xs → ChangeWithin (lists.rpush vs xs).1
rpush_within vs new xs all = stored_within (xs ++ vs) (all_append IsWord xs vs all new)

pub lpushx_within : (vs : List Bytes) → Words vs → (xs : List Bytes) → Words xs → ChangeWithin (lists.lpushx vs xs).1
lpushx_within vs new [] all = tt
lpushx_within vs new (x ∷ xs) all = lpush_within vs new (x ∷ xs) all

pub rpushx_within : (vs : List Bytes) → Words vs → (xs : List Bytes) → Words xs → ChangeWithin (lists.rpushx vs xs).1
rpushx_within vs new [] all = tt
rpushx_within vs new (x ∷ xs) all = rpush_within vs new (x ∷ xs) all

pub lpop_within : (n : Option ℤ) (xs : List Bytes) → Words xs → ChangeWithin (lists.lpop n xs).1
lpop_within None [] all = tt
lpop_within None (x ∷ xs) all = stored_within xs all.1
lpop_within (Some n) [] all = tt
lpop_within (Some n) (x ∷ xs) all = stored_within (drop (nat_abs n) (x ∷ xs)) (all_drop IsWord (nat_abs n) (x ∷ xs) all)

-- RPOP turns the list before and after
pub rpop_within : (n : Option ℤ) (xs : List Bytes) → Words xs → ChangeWithin (lists.rpop n xs).1
rpop_within n xs all = by (lists.lpop n (reverse xs)).1 refl (lpop_within n (reverse xs) (all_reverse IsWord xs all))
  where
    by : (change : Change) → (lists.lpop n (reverse xs)).1 ≡ change → ChangeWithin change → ChangeWithin (lists.rpop n xs).1
    by Change.Keep e h = rw e tt
    by Change.Delete e h = rw e tt
    by (Change.Put (Value.Elements ys)) e h = rw e (omega (arith, length-reverse ys, h.0), all_reverse IsWord ys h.1)
    by (Change.Put (Value.Str b)) e h = rw e tt
    by (Change.Put (Value.Hash b)) e h = rw e tt
    by (Change.Put (Value.Set b)) e h = rw e tt

-- ---- places

pub lset_within : (i : ℤ) (v : Bytes) → IsWord v → (xs : List Bytes) → Words xs → ChangeWithin (lists.lset i v xs).1
lset_within i v word [] all = tt
lset_within i v word (x ∷ xs) all = by (place i (length (x ∷ xs))) refl
  where
    by : (at : Option ℕ) → place i (length (x ∷ xs)) ≡ at → ChangeWithin (lists.lset i v (x ∷ xs)).1
    by None e = rw e tt
    by (Some at) e = rw e (stored_within (set (x ∷ xs) at v) (all_set IsWord (x ∷ xs) at v all word))

abbrev FoundWithin : Option (List Bytes) → Type 0
FoundWithin None = Unit {0}
FoundWithin (Some xs) = Words xs

inserted_within : (at : Beside) (p v : Bytes) (xs : List Bytes) → IsWord v → Words xs → FoundWithin (lists.inserted at p v xs)
inserted_within at p v [] word all = tt
inserted_within at p v (x ∷ xs) word all = by at (same x p) (lists.inserted at p v xs) refl refl (inserted_within at p v xs word all.1)
  where
    by : (side : Beside) (b : Bool) (more : Option (List Bytes)) → same x p ≡ b → lists.inserted side p v xs ≡ more → FoundWithin more → FoundWithin (lists.inserted side p v (x ∷ xs))
    by Before true more e f h = rw e (word, all)
    by After true more e f h = rw e (all.0, (word, all.1))
    by side false None e f h = rw (e, f) tt
    by side false (Some ys) e f h = rw (e, f) (all.0, h)

pub linsert_within : (at : Beside) (p v : Bytes) → IsWord v → (xs : List Bytes) → Words xs → ChangeWithin (lists.linsert at p v xs).1
linsert_within at p v word [] all = tt
linsert_within at p v word (x ∷ xs) all = by (lists.inserted at p v (x ∷ xs)) refl (inserted_within at p v (x ∷ xs) word all)
  where
    by : (found : Option (List Bytes)) → lists.inserted at p v (x ∷ xs) ≡ found → FoundWithin found → ChangeWithin (lists.linsert at p v (x ∷ xs)).1
    by None e h = rw e tt
    by (Some ys) e h = rw e (stored_within ys h)

-- ---- parts of a list

first_left : (n : ℕ) (v : Bytes) (xs : List Bytes) → Words xs → Words (lists.without_first n v xs)
first_left zero v xs all = all
first_left (suc n) v [] all = tt
first_left (suc n) v (x ∷ xs) all =
    all_of_two IsWord (same x v) (lists.without_first n v xs) (x ∷ lists.without_first (suc n) v xs) (first_left n v xs all.1) (all.0, first_left (suc n) v xs all.1)

left : (n : ℤ) (v : Bytes) (xs : List Bytes) → Words xs → Words (lists.without n v xs)
left (pos zero) v xs all = all_filter IsWord (λ x. not (same x v)) xs all
left (pos (suc n)) v xs all = first_left (suc n) v xs all
left (negsuc n) v xs all = all_reverse IsWord (lists.without_first (suc n) v (reverse xs)) (first_left (suc n) v (reverse xs) (all_reverse IsWord xs all))

pub lrem_within : (n : ℤ) (v : Bytes) (xs : List Bytes) → Words xs → ChangeWithin (lists.lrem n v xs).1
lrem_within n v xs all = stored_within (lists.without n v xs) (left n v xs all)

pub ltrim_within : (from to : ℤ) (xs : List Bytes) → Words xs → ChangeWithin (lists.ltrim from to xs).1
ltrim_within from to xs all =
    stored_within (ranged from to xs) (all_drop IsWord (start from (length xs)) (take (stop to (length xs)) xs) (all_take IsWord (stop to (length xs)) xs all))
