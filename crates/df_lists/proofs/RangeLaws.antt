-- A range of a list, element by element, and how long it is.
use Rattle.std.proofs.Common.{◌≡◌, ℕ, zero, suc, ◌+◌, ◌-◌, ◌<◌, ◌≤◌, List, [], ◌∷◌, ◌++◌, length, take, drop, codes, decimal, refl, sym, ap, ◌∙◌, arith, append_assoc}
use Rattle.std.specs.Prelude.{ℤ, pos, negsuc, Some, None, slice_get}
use Rattle.std.specs.List.{flat_map}
use Rattle.std.proofs.lemmas.List.{length-reverse, length-drop, length-take-le}
use Rattle.df_model.specs.Values.{Bytes}
use Rattle.df_model.specs.Ranges as ranges
use Rattle.df_model.specs.Outcomes.{bulks}
use Rattle.df_model.specs.Replies.{encoding_of, crlf}
use Rattle.df_model.specs.declared.reply.Reply.TheVariants.{Bulk}
use Rattle.df_model.proofs.EncodingLaws.{bulks_is}
use Rattle.df_model.specs.declared.command.Side.{Side}
use Rattle.df_model.specs.declared.command.Side.TheVariants.{Left, Right}
use Rattle.df_lists.specs.Ends.{from_end}

abbrev pub bulk_bytes : Bytes → Bytes
bulk_bytes bytes = encoding_of (Bulk bytes)

pub length-from_end : (side : Side) (xs : List Bytes) → length (from_end side xs) ≡ length xs
length-from_end Left xs = refl
length-from_end Right xs = length-reverse xs

pub stop_within : (to : ℤ) (n : ℕ) → ranges.stop to n ≤ n
stop_within (pos i) n = omega arith
stop_within (negsuc i) n = omega arith

pub length-range : (start stop : ℕ) (xs : List Bytes) → stop ≤ length xs → length (drop start (take stop xs)) ≡ stop - start
length-range start stop xs within = length-drop start (take stop xs) ∙ ap (λ n. n - start) (length-take-le stop xs within)

pub take_all : (n : ℕ) (xs : List Bytes) → length xs ≤ n → take n xs ≡ xs
take_all zero [] within = refl
take_all (suc n) [] within = refl
take_all zero (x ∷ xs) within = absurd (omega arith)
take_all (suc n) (x ∷ xs) within = ap (λ ys. x ∷ ys) (take_all n xs (omega arith))

pub no_more : (xs : List Bytes) → length xs ≡ 0 → xs ≡ []
no_more [] none = refl
no_more (x ∷ xs) none = absurd (omega arith)

pub some_long : (xs : List Bytes) → (xs ≡ [] → ⊥) → 0 < length xs
some_long [] some = absurd (some refl)
some_long (x ∷ xs) some = omega arith

-- a range that is as long as the list is the list
pub range_all : (start stop : ℕ) (xs : List Bytes) → stop ≤ length xs → length (drop start (take stop xs)) ≡ length xs → drop start (take stop xs) ≡ xs
range_all start stop [] within all = no_more (drop start (take stop [])) all
range_all zero stop (x ∷ xs) within all = take_all stop (x ∷ xs) (omega (arith, length-range zero stop (x ∷ xs) within, all))
range_all (suc start) stop (x ∷ xs) within all = absurd (omega (arith, length-range (suc start) stop (x ∷ xs) within, all))

-- ---- the loop that writes the elements

pub next_of : (i : ℕ) (xs : List Bytes) (x : Bytes) → slice_get xs i ≡ Some x → drop i xs ≡ x ∷ drop (i + 1) xs
next_of i xs x at = let next : suc i ≡ i + 1 = omega arith in go i xs x at ∙ ap (λ n. x ∷ drop n xs) next
  where
    go : (i : ℕ) (xs : List Bytes) (x : Bytes) → slice_get xs i ≡ Some x → drop i xs ≡ x ∷ drop (suc i) xs
    go i [] x at = cc
    go zero (y ∷ ys) x at = ap (λ z. z ∷ ys) (let e : Some y ≡ Some x = at in cc)
    go (suc i) (y ∷ ys) x at = go i ys x at

range_next : (i stop : ℕ) (xs : List Bytes) (x : Bytes) → i < stop → slice_get xs i ≡ Some x → drop i (take stop xs) ≡ x ∷ drop (suc i) (take stop xs)
range_next i zero xs x within at = absurd (omega arith)
range_next i (suc n) [] x within at = cc
range_next zero (suc n) (y ∷ ys) x within at = ap (λ z. z ∷ take n ys) (let e : Some y ≡ Some x = at in cc)
range_next (suc i) (suc n) (y ∷ ys) x within at = range_next i n ys x (omega arith) at

pub range_starts : (pieces : Bytes) (start stop : ℕ) (xs : List Bytes) → stop ≤ length xs → pieces ≡ codes "*" ++ decimal (stop - start) ++ crlf
    → pieces ++ flat_map bulk_bytes (drop start (take stop xs)) ≡ encoding_of (bulks (drop start (take stop xs)))
range_starts pieces start stop xs within head =
    ap (λ p. p ++ flat_map bulk_bytes (drop start (take stop xs))) head
    ∙ ap (λ n. (codes "*" ++ decimal n ++ crlf) ++ flat_map bulk_bytes (drop start (take stop xs))) (sym (length-range start stop xs within))
    ∙ sym (bulks_is (drop start (take stop xs)))

pub range_goes : (pieces next whole : Bytes) (i stop : ℕ) (xs : List Bytes) (x : Bytes) → i < stop → slice_get xs i ≡ Some x → next ≡ pieces ++ bulk_bytes x
    → pieces ++ flat_map bulk_bytes (drop i (take stop xs)) ≡ whole → next ++ flat_map bulk_bytes (drop (i + 1) (take stop xs)) ≡ whole
range_goes pieces next whole i stop xs x within at made so_far =
    let further : i + 1 ≡ suc i = omega arith in
    ap (λ n. next ++ flat_map bulk_bytes (drop n (take stop xs))) further
    ∙ ap (λ p. p ++ flat_map bulk_bytes (drop (suc i) (take stop xs))) made
    ∙ append_assoc pieces (bulk_bytes x) (flat_map bulk_bytes (drop (suc i) (take stop xs)))
    ∙ ap (λ ys. pieces ++ flat_map bulk_bytes ys) (sym (range_next i stop xs x within at))
    ∙ so_far

pub get_within : (i : ℕ) (xs : List Bytes) → i < length xs → slice_get xs i ≡ None → ⊥
get_within i [] within none = omega arith
get_within zero (x ∷ xs) within none = cc
get_within (suc i) (x ∷ xs) within none = get_within i xs (omega arith) none
