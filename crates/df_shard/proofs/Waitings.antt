-- The calls that wait, by their numbers: how they change, and what that does to what is armed and staged.
use Rattle.std.proofs.Common.{◌≡◌, ◌≢◌, ℕ, zero, suc, ◌+◌, ◌<◌, ◌≤◌, length, Bool, true, false, cond, List, [], ◌∷◌, ◌++◌, refl, sym, ap, ◌∙◌, subst, arith, eq-eqb, ne_eqb}
use Rattle.std.specs.Prelude.{Some, None, map, ◌==◌, slice_index_or, slice_set}
use mathlib.Core.Logic.{dite}
use native.Mathlib.Decide.{ℕ_discrete}
use Rattle.df_log.specs.Acts.{Changes}
use Rattle.df_book.specs.Weights.{Each}
use Rattle.df_book.proofs.Sums.{total-append}
use Rattle.df_shard.specs.Holds.{Wait, Once, wait_at, armed_of, armed_in, is_armed, staged_of, staged_at, puts_in, puts_staged, wait_of}
use Rattle.df_shard.specs.Changes.{with_wait, waiting_without}
use Rattle.df_shard.specs.declared.waiting.Waiting.{Waiting}
use Rattle.df_shard.proofs.Bare.{none-some, some-same}

-- ---- the first with a number

at-here : (n : ℕ) (w : Wait) (ws : List Wait) → w.number ≡ n → wait_at n (w ∷ ws) ≡ Some w
at-here n w ws is = ap (λ b. cond b (Some w) (wait_at n ws)) (eq-eqb w.number n is)

at-behind : (n : ℕ) (w : Wait) (ws : List Wait) → w.number ≢ n → wait_at n (w ∷ ws) ≡ wait_at n ws
at-behind n w ws ne = ap (λ b. cond b (Some w) (wait_at n ws)) (ne_eqb w.number n ne)

-- who isn't there isn't the first
other-first : (n : ℕ) (w : Wait) (ws : List Wait) → wait_at n (w ∷ ws) ≡ None → w.number ≢ n
other-first n w ws none is = absurd (none-some w (sym none ∙ at-here n w ws is))

behind-none : (n : ℕ) (w : Wait) (ws : List Wait) → wait_at n (w ∷ ws) ≡ None → wait_at n ws ≡ None
behind-none n w ws none = sym (at-behind n w ws (other-first n w ws none)) ∙ none

pub at-number : (n : ℕ) (ws : List Wait) (w : Wait) → wait_at n ws ≡ Some w → w.number ≡ n
at-number n [] w e = absurd (none-some w e)
at-number n (v ∷ ws) w e = dite (ℕ_discrete v.number n)
    (λ (is : v.number ≡ n). sym (ap (λ (u : Wait). u.number) (some-same v w (sym (at-here n v ws is) ∙ e))) ∙ is)
    (λ (ne : v.number ≢ n). at-number n ws w (sym (at-behind n v ws ne) ∙ e))

pub at-each : (P : Wait → Type 0) (n : ℕ) (ws : List Wait) (w : Wait) → wait_at n ws ≡ Some w → Each P ws → P w
at-each P n [] w e p = absurd (none-some w e)
at-each P n (v ∷ ws) w e p = dite (ℕ_discrete v.number n)
    (λ (is : v.number ≡ n). subst P (some-same v w (sym (at-here n v ws is) ∙ e)) p.0)
    (λ (ne : v.number ≢ n). at-each P n ws w (sym (at-behind n v ws ne) ∙ e) p.1)

-- ---- one comes

pub staged-append : (ws : List Wait) (w : Wait) → w.staged ≡ [] → (m : ℕ) → staged_at m (ws ++ w ∷ []) ≡ staged_at m ws
staged-append [] w bare m = go (w.number == m)
  where
    go : (b : Bool) → staged_of (cond b (Some w) None) ≡ []
    go true = bare
    go false = refl
staged-append (v ∷ ws) w bare m = go (staged-append ws w bare m) (v.number == m)
  where
    go : staged_at m (ws ++ w ∷ []) ≡ staged_at m ws → (b : Bool) →
        staged_of (cond b (Some v) (wait_at m (ws ++ w ∷ []))) ≡ staged_of (cond b (Some v) (wait_at m ws))
    go more true = refl
    go more false = more

pub armed-append : (ws : List Wait) (w : Wait) (m : ℕ) → armed_in (ws ++ w ∷ []) m ≤ armed_in ws m + cond (w.number == m) (is_armed w.armed) 0
armed-append [] w m = go (w.number == m)
  where
    go : (b : Bool) → is_armed (armed_of (cond b (Some w) None)) ≤ 0 + cond b (is_armed w.armed) 0
    go true = omega arith
    go false = omega arith
armed-append (v ∷ ws) w m = go (armed-append ws w m) (v.number == m)
  where
    go : armed_in (ws ++ w ∷ []) m ≤ armed_in ws m + cond (w.number == m) (is_armed w.armed) 0 → (b : Bool) →
        is_armed (armed_of (cond b (Some v) (wait_at m (ws ++ w ∷ [])))) ≤ is_armed (armed_of (cond b (Some v) (wait_at m ws))) + cond (w.number == m) (is_armed w.armed) 0
    go more true = omega arith
    go more false = more

at-append-none : (m : ℕ) (ws : List Wait) (w : Wait) → wait_at m ws ≡ None → w.number ≢ m → wait_at m (ws ++ w ∷ []) ≡ None
at-append-none m [] w none ne = at-behind m w [] ne
at-append-none m (v ∷ ws) w none ne =
    at-behind m v (ws ++ w ∷ []) (other-first m v ws none) ∙ at-append-none m ws w (behind-none m v ws none) ne

pub once-append : (ws : List Wait) (w : Wait) → Once ws → wait_at w.number ws ≡ None → Once (ws ++ w ∷ [])
once-append [] w o none = (refl, tt)
once-append (v ∷ ws) w o none = (
  at-append-none v.number ws w o.0 (λ is. other-first w.number v ws none (sym is)),
  once-append ws w o.1 (behind-none w.number v ws none),
)

-- ---- one changes

pub at-with : (n : ℕ) (new : Wait) (ws : List Wait) (w : Wait) → new.number ≡ n → wait_at n ws ≡ Some w → wait_at n (with_wait n new ws) ≡ Some new
at-with n new [] w is e = absurd (none-some w e)
at-with n new (v ∷ ws) w is e = dite (ℕ_discrete v.number n)
    (λ (here : v.number ≡ n). subst (λ b. wait_at n (cond b (new ∷ ws) (v ∷ with_wait n new ws)) ≡ Some new) (sym (eq-eqb v.number n here)) (at-here n new ws is))
    (λ (ne : v.number ≢ n). subst (λ b. wait_at n (cond b (new ∷ ws) (v ∷ with_wait n new ws)) ≡ Some new) (sym (ne_eqb v.number n ne))
    (at-behind n v (with_wait n new ws) ne ∙ at-with n new ws w is (sym (at-behind n v ws ne) ∙ e)))

pub at-with-else : (n : ℕ) (new : Wait) (ws : List Wait) (m : ℕ) → new.number ≡ n → m ≢ n → wait_at m (with_wait n new ws) ≡ wait_at m ws
at-with-else n new [] m is ne = refl
at-with-else n new (v ∷ ws) m is ne = dite (ℕ_discrete v.number n)
    (λ (here : v.number ≡ n). subst (λ b. wait_at m (cond b (new ∷ ws) (v ∷ with_wait n new ws)) ≡ wait_at m (v ∷ ws)) (sym (eq-eqb v.number n here))
    (at-behind m new ws (λ j. ne (sym j ∙ is)) ∙ sym (at-behind m v ws (λ j. ne (sym j ∙ here)))))
    (λ (no : v.number ≢ n). subst (λ b. wait_at m (cond b (new ∷ ws) (v ∷ with_wait n new ws)) ≡ wait_at m (v ∷ ws)) (sym (ne_eqb v.number n no))
    (ap (λ o. cond (v.number == m) (Some v) o) (at-with-else n new ws m is ne)))

pub once-with : (n : ℕ) (new : Wait) (ws : List Wait) → new.number ≡ n → Once ws → Once (with_wait n new ws)
once-with n new [] is o = tt
once-with n new (v ∷ ws) is o = dite (ℕ_discrete v.number n)
    (λ (here : v.number ≡ n). subst (λ b. Once (cond b (new ∷ ws) (v ∷ with_wait n new ws))) (sym (eq-eqb v.number n here))
    (subst (λ i. wait_at i ws ≡ None) (here ∙ sym is) o.0, o.1))
    (λ (no : v.number ≢ n). subst (λ b. Once (cond b (new ∷ ws) (v ∷ with_wait n new ws))) (sym (ne_eqb v.number n no))
    (at-with-else n new ws v.number is no ∙ o.0, once-with n new ws is o.1))

each-others : (P Q : Wait → Type 0) (n : ℕ) (ws : List Wait) → ((v : Wait) → v.number ≢ n → P v → Q v) → wait_at n ws ≡ None → Each P ws → Each Q ws
each-others P Q n [] f none p = tt
each-others P Q n (v ∷ ws) f none p =
    (f v (other-first n v ws none) p.0, each-others P Q n ws f (behind-none n v ws none) p.1)

pub each-with : (P Q : Wait → Type 0) (n : ℕ) (new : Wait) (ws : List Wait) → ((v : Wait) → v.number ≢ n → P v → Q v) → Q new → Once ws → Each P ws → Each Q (with_wait n new ws)
each-with P Q n new [] f q o p = tt
each-with P Q n new (v ∷ ws) f q o p = dite (ℕ_discrete v.number n)
    (λ (here : v.number ≡ n). subst (λ b. Each Q (cond b (new ∷ ws) (v ∷ with_wait n new ws))) (sym (eq-eqb v.number n here))
    (q, each-others P Q n ws f (subst (λ i. wait_at i ws ≡ None) here o.0) p.1))
    (λ (no : v.number ≢ n). subst (λ b. Each Q (cond b (new ∷ ws) (v ∷ with_wait n new ws))) (sym (ne_eqb v.number n no))
    (f v no p.0, each-with P Q n new ws f q o.1 p.1))

pub puts-with : (n : ℕ) (new : Wait) (ws : List Wait) (w : Wait) → wait_at n ws ≡ Some w →
    puts_staged (with_wait n new ws) + puts_in w.staged ≡ puts_staged ws + puts_in new.staged
puts-with n new [] w e = absurd (none-some w e)
puts-with n new (v ∷ ws) w e = dite (ℕ_discrete v.number n)
    (λ (here : v.number ≡ n). subst (λ b. puts_staged (cond b (new ∷ ws) (v ∷ with_wait n new ws)) + puts_in w.staged ≡ puts_staged (v ∷ ws) + puts_in new.staged) (sym (eq-eqb v.number n here))
    (omega (arith, ap (λ (u : Wait). puts_in u.staged) (some-same v w (sym (at-here n v ws here) ∙ e)))))
    (λ (no : v.number ≢ n). subst (λ b. puts_staged (cond b (new ∷ ws) (v ∷ with_wait n new ws)) + puts_in w.staged ≡ puts_staged (v ∷ ws) + puts_in new.staged) (sym (ne_eqb v.number n no))
    (omega (arith, puts-with n new ws w (sym (at-behind n v ws no) ∙ e))))

-- what is staged of one of them is within the room of all
pub puts-here : (n : ℕ) (ws : List Wait) (w : Wait) → wait_at n ws ≡ Some w → puts_in w.staged ≤ puts_staged ws
puts-here n [] w e = absurd (none-some w e)
puts-here n (v ∷ ws) w e = dite (ℕ_discrete v.number n)
    (λ (here : v.number ≡ n). omega (arith, ap (λ (u : Wait). puts_in u.staged) (some-same v w (sym (at-here n v ws here) ∙ e))))
    (λ (no : v.number ≢ n). omega (arith, puts-here n ws w (sym (at-behind n v ws no) ∙ e)))

-- ---- one leaves

pub at-without : (n : ℕ) (ws : List Wait) → wait_at n (waiting_without n ws) ≡ None
at-without n [] = refl
at-without n (v ∷ ws) = dite (ℕ_discrete v.number n)
    (λ (here : v.number ≡ n). subst (λ b. wait_at n (cond b (waiting_without n ws) (v ∷ waiting_without n ws)) ≡ None) (sym (eq-eqb v.number n here)) (at-without n ws))
    (λ (no : v.number ≢ n). subst (λ b. wait_at n (cond b (waiting_without n ws) (v ∷ waiting_without n ws)) ≡ None) (sym (ne_eqb v.number n no))
    (at-behind n v (waiting_without n ws) no ∙ at-without n ws))

pub at-without-else : (n : ℕ) (ws : List Wait) (m : ℕ) → m ≢ n → wait_at m (waiting_without n ws) ≡ wait_at m ws
at-without-else n [] m ne = refl
at-without-else n (v ∷ ws) m ne = dite (ℕ_discrete v.number n)
    (λ (here : v.number ≡ n). subst (λ b. wait_at m (cond b (waiting_without n ws) (v ∷ waiting_without n ws)) ≡ wait_at m (v ∷ ws)) (sym (eq-eqb v.number n here))
    (at-without-else n ws m ne ∙ sym (at-behind m v ws (λ j. ne (sym j ∙ here)))))
    (λ (no : v.number ≢ n). subst (λ b. wait_at m (cond b (waiting_without n ws) (v ∷ waiting_without n ws)) ≡ wait_at m (v ∷ ws)) (sym (ne_eqb v.number n no))
    (ap (λ o. cond (v.number == m) (Some v) o) (at-without-else n ws m ne)))

pub once-without : (n : ℕ) (ws : List Wait) → Once ws → Once (waiting_without n ws)
once-without n [] o = tt
once-without n (v ∷ ws) o = dite (ℕ_discrete v.number n)
    (λ (here : v.number ≡ n). subst (λ b. Once (cond b (waiting_without n ws) (v ∷ waiting_without n ws))) (sym (eq-eqb v.number n here)) (once-without n ws o.1))
    (λ (no : v.number ≢ n). subst (λ b. Once (cond b (waiting_without n ws) (v ∷ waiting_without n ws))) (sym (ne_eqb v.number n no))
    (at-without-else n ws v.number no ∙ o.0, once-without n ws o.1))

pub armed-without : (n : ℕ) (ws : List Wait) (m : ℕ) → armed_in (waiting_without n ws) m ≤ armed_in ws m
armed-without n ws m = dite (ℕ_discrete m n)
    (λ (is : m ≡ n). subst (λ i. armed_in (waiting_without n ws) i ≤ armed_in ws i) (sym is)
    (omega (arith, ap (λ o. is_armed (armed_of o)) (at-without n ws))))
    (λ (ne : m ≢ n). omega (arith, ap (λ o. is_armed (armed_of o)) (at-without-else n ws m ne)))

pub staged-without : (n : ℕ) (ws : List Wait) → staged_at n ws ≡ [] → (m : ℕ) → staged_at m (waiting_without n ws) ≡ staged_at m ws
staged-without n ws bare m = dite (ℕ_discrete m n)
    (λ (is : m ≡ n). subst (λ i. staged_at i (waiting_without n ws) ≡ staged_at i ws) (sym is) (ap staged_of (at-without n ws) ∙ sym bare))
    (λ (ne : m ≢ n). ap staged_of (at-without-else n ws m ne))

pub each-without : (P Q : Wait → Type 0) (n : ℕ) (ws : List Wait) → ((v : Wait) → v.number ≢ n → P v → Q v) → Each P ws → Each Q (waiting_without n ws)
each-without P Q n [] f p = tt
each-without P Q n (v ∷ ws) f p = dite (ℕ_discrete v.number n)
    (λ (here : v.number ≡ n). subst (λ b. Each Q (cond b (waiting_without n ws) (v ∷ waiting_without n ws))) (sym (eq-eqb v.number n here)) (each-without P Q n ws f p.1))
    (λ (no : v.number ≢ n). subst (λ b. Each Q (cond b (waiting_without n ws) (v ∷ waiting_without n ws))) (sym (ne_eqb v.number n no))
    (f v no p.0, each-without P Q n ws f p.1))

pub puts-without : (n : ℕ) (ws : List Wait) → puts_staged (waiting_without n ws) ≤ puts_staged ws
puts-without n [] = omega arith
puts-without n (v ∷ ws) = go (puts-without n ws) (v.number == n)
  where
    go : puts_staged (waiting_without n ws) ≤ puts_staged ws → (b : Bool) → puts_staged (cond b (waiting_without n ws) (v ∷ waiting_without n ws)) ≤ puts_staged (v ∷ ws)
    go less true = omega (arith, less)
    go less false = omega (arith, less)

pub puts-append : (ws : List Wait) (w : Wait) → w.staged ≡ [] → puts_staged (ws ++ w ∷ []) ≡ puts_staged ws
puts-append ws w bare = omega (arith, total-append (λ (v : Wait). puts_in v.staged) ws (w ∷ []), ap puts_in bare)

-- ---- as the shard keeps them

pub wait-append : (ws : List Waiting) (w : Waiting) → map wait_of (ws ++ w ∷ []) ≡ map wait_of ws ++ wait_of w ∷ []
wait-append [] w = refl
wait-append (v ∷ ws) w = ap (λ l. wait_of v ∷ l) (wait-append ws w)

-- a call that is made with a list that holds nothing
pub fresh-wait : (ws : List Wait) (w : Wait) (staged : Changes) → w.staged ≡ staged → ws ++ w ∷ [] ≡ ws ++ record w { staged = staged } ∷ []
fresh-wait ws w staged e = λ j. ws ++ record w { staged = e j } ∷ []

-- ---- by their places

not-none : (ws : List Waiting) (i : ℕ) (w : Waiting) → i < length ws → w ≡ slice_index_or ws i w → wait_at w.number (map wait_of ws) ≢ None
not-none [] i w lt is none = absurd (omega (arith, lt))
not-none (v ∷ ws) zero w lt is none =
    absurd (other-first w.number (wait_of v) (map wait_of ws) none (ap (λ (u : Waiting). u.number) (sym is)))
not-none (v ∷ ws) (suc i) w lt is none = not-none ws i w (omega (arith, lt)) is (behind-none w.number (wait_of v) (map wait_of ws) none)

-- the one at this place is the one with its number
pub at-index : (ws : List Waiting) (i : ℕ) (w : Waiting) → Once (map wait_of ws) → i < length ws → w ≡ slice_index_or ws i w →
    wait_at w.number (map wait_of ws) ≡ Some (wait_of w)
at-index [] i w o lt is = absurd (omega (arith, lt))
at-index (v ∷ ws) zero w o lt is =
    at-here w.number (wait_of v) (map wait_of ws) (ap (λ (u : Waiting). u.number) (sym is)) ∙ ap (λ (u : Waiting). Some (wait_of u)) (sym is)
at-index (v ∷ ws) (suc i) w o lt is =
    at-behind w.number (wait_of v) (map wait_of ws) (λ same. not-none ws i w (omega (arith, lt)) is (subst (λ n. wait_at n (map wait_of ws) ≡ None) same o.0))
    ∙ at-index ws i w o.1 (omega (arith, lt)) is

pub set-with : (ws : List Waiting) (i : ℕ) (w new : Waiting) → Once (map wait_of ws) → i < length ws → w ≡ slice_index_or ws i w →
    map wait_of (slice_set ws i new) ≡ with_wait w.number (wait_of new) (map wait_of ws)
set-with [] i w new o lt is = absurd (omega (arith, lt))
set-with (v ∷ ws) zero w new o lt is =
    sym (ap (λ b. cond b (wait_of new ∷ map wait_of ws) (wait_of v ∷ with_wait w.number (wait_of new) (map wait_of ws)))
    (eq-eqb v.number w.number (ap (λ (u : Waiting). u.number) (sym is))))
set-with (v ∷ ws) (suc i) w new o lt is =
    ap (λ l. wait_of v ∷ l) (set-with ws i w new o.1 (omega (arith, lt)) is)
    ∙ sym (ap (λ b. cond b (wait_of new ∷ map wait_of ws) (wait_of v ∷ with_wait w.number (wait_of new) (map wait_of ws)))
    (ne_eqb v.number w.number (λ same. not-none ws i w (omega (arith, lt)) is (subst (λ n. wait_at n (map wait_of ws) ≡ None) same o.0))))

-- one that changes to what it is
pub with-same : (n : ℕ) (w : Wait) (ws : List Wait) → wait_at n ws ≡ Some w → with_wait n w ws ≡ ws
with-same n w [] e = refl
with-same n w (v ∷ ws) e = dite (ℕ_discrete v.number n)
    (λ (here : v.number ≡ n). subst (λ b. cond b (w ∷ ws) (v ∷ with_wait n w ws) ≡ v ∷ ws) (sym (eq-eqb v.number n here))
    (ap (λ u. u ∷ ws) (sym (some-same v w (sym (at-here n v ws here) ∙ e)))))
    (λ (no : v.number ≢ n). subst (λ b. cond b (w ∷ ws) (v ∷ with_wait n w ws) ≡ v ∷ ws) (sym (ne_eqb v.number n no))
    (ap (λ l. v ∷ l) (with-same n w ws (sym (at-behind n v ws no) ∙ e))))
