-- A turn of a queue: `left` of its elements are still to be looked at, and the others went to its end.
use Rattle.std.proofs.Common.{◌≡◌, ℕ, zero, suc, ◌-◌, ◌<◌, ◌≤◌, true, false, if◌then◌else◌, List, [], ◌∷◌, ◌++◌, length, take, drop, reverse, refl, sym, ap, ◌∙◌, arith, not}
use Rattle.std.specs.List.{filter}
use Rattle.std.proofs.lemmas.List.{drop-append-le, take-append-le, take-append-drop, append_assoc, reverse-append, reverse-reverse, length-reverse, length-drop, take_at, drop_at}
use Rattle.df_model.specs.Values.{Bytes}
use Rattle.df_model.specs.Words.{same}
use Rattle.df_model.specs.Meaning.Lists.{without_first}

-- the list that the queue comes to, where so many elements v are still to be removed
abbrev pub turned : ℕ → ℕ → Bytes → List Bytes → List Bytes
turned left wanted v queue = drop left queue ++ without_first wanted v (take left queue)

less_one : (n : ℕ) → 0 < n → n ≡ suc (n - 1)
less_one n h = omega arith

-- an element that leaves
removed_at : (left wanted : ℕ) (v x : Bytes) (queue : List Bytes) → same x v ≡ true → turned left wanted v queue ≡ turned (suc left) (suc wanted) v (x ∷ queue)
removed_at left wanted v x queue is = rw is refl

pub removed : (left wanted : ℕ) (v x : Bytes) (old new : List Bytes) → 0 < left → 0 < wanted → same x v ≡ true → old ≡ x ∷ new → turned (left - 1) (wanted - 1) v new ≡ turned left wanted v old
removed left wanted v x old new some more is out =
    removed_at (left - 1) (wanted - 1) v x new is ∙ ap (λ n. turned n (suc (wanted - 1)) v (x ∷ new)) (sym (less_one left some)) ∙ ap (λ n. turned left n v (x ∷ new)) (sym (less_one wanted more)) ∙ ap (turned left wanted v) (sym out)

-- an element that stays
stays : (wanted : ℕ) (v x : Bytes) (xs : List Bytes) → same x v ≡ false → without_first wanted v (x ∷ xs) ≡ x ∷ without_first wanted v xs
stays zero v x xs is = refl
stays (suc wanted) v x xs is = rw is refl

passed_at : (left wanted : ℕ) (v x : Bytes) (queue : List Bytes) → left ≤ length queue → same x v ≡ false → turned left wanted v (queue ++ x ∷ []) ≡ turned (suc left) wanted v (x ∷ queue)
passed_at left wanted v x queue within is =
    rw (drop-append-le left queue (x ∷ []), take-append-le left queue (x ∷ []), append_assoc) (ap (λ rest. drop left queue ++ rest) (sym (stays wanted v x (take left queue) is)))

pub passed : (left wanted : ℕ) (v x : Bytes) (old queue new : List Bytes) → 0 < left → left ≤ length old → same x v ≡ false → old ≡ x ∷ queue → new ≡ queue ++ x ∷ [] → turned (left - 1) wanted v new ≡ turned left wanted v old
passed left wanted v x old queue new some within is out back =
    let fewer : left - 1 ≤ length queue = omega (arith, ap length out) in
    ap (turned (left - 1) wanted v) back ∙ passed_at (left - 1) wanted v x queue fewer is ∙ ap (λ n. turned n wanted v (x ∷ queue)) (sym (less_one left some)) ∙ ap (turned left wanted v) (sym out)

-- none is wanted any more, or none is left
turn_done : (wanted : ℕ) (v : Bytes) (queue : List Bytes) (left : ℕ) → (0 < left → wanted ≡ 0) → drop left queue ++ take left queue ≡ turned left wanted v queue
turn_done zero v queue left done = refl
turn_done (suc wanted) v queue zero done = refl
turn_done (suc wanted) v queue (suc left) done = absurd (omega (arith, done (omega arith)))

-- ---- the same from the other end

length-back : (left : ℕ) (xs : List Bytes) → left ≤ length xs → length (reverse (drop (length xs - left) xs)) ≡ left
length-back left xs within = length-reverse (drop (length xs - left) xs) ∙ length-drop (length xs - left) xs ∙ omega arith

-- a turn by `left` to the right is one to the left in the reverse
turn_back : (left : ℕ) (xs : List Bytes) → left ≤ length xs → reverse (drop (length xs - left) xs ++ take (length xs - left) xs) ≡ drop left (reverse xs) ++ take left (reverse xs)
turn_back left xs within =
    let back : List Bytes = reverse (drop (length xs - left) xs) in
    let front : List Bytes = reverse (take (length xs - left) xs) in
    let is : reverse xs ≡ back ++ front = ap reverse (sym (take-append-drop (length xs - left) xs)) ∙ reverse-append (take (length xs - left) xs) (drop (length xs - left) xs) in
    let long : length back ≡ left = length-back left xs within in
    reverse-append (drop (length xs - left) xs) (take (length xs - left) xs) ∙ rw (is, drop_at back front left long, take_at back front left long) refl

pub turned_back : (left wanted n : ℕ) (v : Bytes) (queue new found : List Bytes) → n ≡ length queue → left ≤ n → (0 < left → wanted ≡ 0) → new ≡ drop (n - left) queue ++ take (n - left) queue → turned left wanted v (reverse queue) ≡ found → new ≡ reverse found
turned_back left wanted n v queue new found long within done is to =
    let turn : new ≡ drop (length queue - left) queue ++ take (length queue - left) queue = is ∙ ap (λ m. drop (m - left) queue ++ take (m - left) queue) long in
    sym (reverse-reverse new) ∙ ap reverse (ap reverse turn ∙ turn_back left queue (omega arith) ∙ turn_done wanted v (reverse queue) left done ∙ to)

-- ---- how many are removed

-- a list has no more elements v than elements
pub without_all : (n : ℕ) (v : Bytes) (xs : List Bytes) → length xs ≤ n → without_first n v xs ≡ filter (λ x. not (same x v)) xs
without_all zero v [] h = refl
without_all zero v (x ∷ xs) h = absurd (omega arith)
without_all (suc n) v [] h = refl
without_all (suc n) v (x ∷ xs) h =
    elim (same x v) as (λ b. (if b then without_first n v xs else x ∷ without_first (suc n) v xs) ≡ (if not b then x ∷ filter (λ y. not (same y v)) xs else filter (λ y. not (same y v)) xs)) [
      | true ↦ without_all n v xs (omega arith)
      | false ↦ ap (λ ys. x ∷ ys) (without_all (suc n) v xs (omega arith))
    ]
