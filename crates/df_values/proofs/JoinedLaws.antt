-- Buffers one after another.
use Rattle.std.proofs.Common.{◌≡◌, ℕ, ◌+◌, ◌-◌, ◌<◌, ◌≤◌, List, [], ◌∷◌, ◌++◌, length, take, drop, get_or, sym, ap, ◌∙◌, subst, append_assoc, append-nil, arith, length-append}
use Rattle.std.proofs.Math.Seq.{drop-append-add, take-add, take-append_seam}
use Rattle.std.proofs.lemmas.List.{drop_more, drop_all, length-drop}
use Rattle.df_colls.specs.Runs.{IsFront}
use Rattle.df_model.specs.Values.{Bytes}
use Rattle.df_values.specs.Joined.{joined}

joined-push : (buffers : List Bytes) (buffer : Bytes) → joined (buffers ++ buffer ∷ []) ≡ joined buffers ++ buffer
joined-push [] buffer = append-nil buffer
joined-push (first ∷ buffers) buffer = ap (λ x. first ++ x) (joined-push buffers buffer) ∙ sym (append_assoc first (joined buffers) buffer)

-- two more buffers
joined_two : (buffers all : List Bytes) (a b : Bytes) → all ≡ (buffers ++ a ∷ []) ++ b ∷ [] → joined all ≡ (joined buffers ++ a) ++ b
joined_two buffers all a b e = ap joined e ∙ joined-push (buffers ++ a ∷ []) b ∙ ap (λ x. x ++ b) (joined-push buffers a)

-- what was open is kept, and a byte string behind it
pub pushed : (buffers all : List Bytes) (a b none whole : Bytes) → all ≡ (buffers ++ a ∷ []) ++ b ∷ [] → none ≡ [] → joined buffers ++ a ≡ whole → joined all ++ none ≡ whole ++ b
pushed buffers all a b none whole e empty v = ap (λ x. joined all ++ x) empty ∙ append-nil (joined all) ∙ joined_two buffers all a b e ∙ ap (λ x. x ++ b) v

pub pushed_len : (buffers all : List Bytes) (a b : Bytes) (n kept : ℕ) → all ≡ (buffers ++ a ∷ []) ++ b ∷ [] → kept ≡ length (joined buffers) → n ≡ kept + length a + length b → n ≡ length (joined all)
pushed_len buffers all a b n kept e is_kept is_n =
    omega (arith, ap length (joined_two buffers all a b e), length-append (joined buffers ++ a) b, length-append (joined buffers) a)

next : (buffers : List Bytes) (i : ℕ) (b : Bytes) → i < length buffers → b ≡ get_or buffers i b → drop i buffers ≡ b ∷ drop (i + 1) buffers
next buffers i b h is = drop_more buffers i b h ∙ ap (λ x. x ∷ drop (i + 1) buffers) (sym is)

on : (buffers : List Bytes) (more : Bytes) (i at : ℕ) (b : Bytes) → i < length buffers → b ≡ get_or buffers i b → length b ≤ at → drop at (joined (drop i buffers) ++ more) ≡ drop (at - length b) (joined (drop (i + 1) buffers) ++ more)
on buffers more i at b h is le =
    let split : at ≡ length b + (at - length b) = omega arith in
    ap (λ x. drop at (joined x ++ more)) (next buffers i b h is)
    ∙ ap (drop at) (append_assoc b (joined (drop (i + 1) buffers)) more)
    ∙ ap (λ n. drop n (b ++ (joined (drop (i + 1) buffers) ++ more))) split
    ∙ drop-append-add b (joined (drop (i + 1) buffers) ++ more) (at - length b)

-- a place behind the i-th of the buffers
pub run_on : (kept items : List Bytes) (more : Bytes) (i at n : ℕ) (b whole : Bytes) → items ≡ kept → i < length items → b ≡ get_or items i b → n ≡ length b → n ≤ at → drop at (joined (drop i kept) ++ more) ≡ whole → drop (at - n) (joined (drop (i + 1) kept) ++ more) ≡ whole
run_on kept items more i at n b whole same h is long le e =
    let here : i < length kept = subst (λ x. i < length x) same h in
    let behind : length b ≤ at = omega arith in
    ap (λ m. drop (at - m) (joined (drop (i + 1) kept) ++ more)) long
    ∙ sym (on kept more i at b here (is ∙ ap (λ x. get_or x i b) same) behind)
    ∙ e

-- a place behind all of them
pub run_last : (kept items : List Bytes) (more : Bytes) (i at : ℕ) (whole : Bytes) → items ≡ kept → length items ≤ i → drop at (joined (drop i kept) ++ more) ≡ whole → drop at more ≡ whole
run_last kept items more i at whole same h e =
    let all : length kept ≤ i = subst (λ x. length x ≤ i) same h in
    ap (λ x. drop at (joined x ++ more)) (sym (drop_all i kept all)) ∙ e

-- ---- a reply that is read run after run

run_taken : (whole run rest : Bytes) (at : ℕ) → drop at whole ≡ run ++ rest → take (at + length run) whole ≡ take at whole ++ run
run_taken whole run rest at e =
    take-add at (length run) whole
    ∙ ap (λ x. take at whole ++ take (length run) x) e
    ∙ ap (λ x. take at whole ++ x) (take-append_seam run rest)

-- what was read so far, and the run that comes next
pub one_more : (whole run said old now : Bytes) (at : ℕ) → IsFront (drop at whole) run → said ≡ old ++ take at whole → now ≡ said ++ run → now ≡ old ++ take (at + length run) whole
one_more whole run said old now at f e added =
    added
    ∙ ap (λ x. x ++ run) e
    ∙ append_assoc old (take at whole) run
    ∙ ap (λ x. old ++ x) (sym (run_taken whole run f.0 at f.1))

-- a run ends within the whole
pub run_within : (whole run : Bytes) (at : ℕ) → IsFront (drop at whole) run → at ≤ length whole → at + length run ≤ length whole
run_within whole run at f h = omega (arith, ap length f.1, length-append run f.0, length-drop at whole)
