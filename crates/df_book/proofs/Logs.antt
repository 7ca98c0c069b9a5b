-- Beginnings of logs.
use Rattle.std.proofs.Common.{◌≡◌, ◌≢◌, ℕ, zero, suc, ◌<◌, ◌≤◌, List, [], ◌∷◌, ◌++◌, sym, refl, ap, ◌∙◌, subst, arith}
use mathlib.Core.Logic.{dite}
use native.Mathlib.Decide.{ℕ_discrete}
use Rattle.df_log.specs.declared.entry.Entry.{Entry}
use Rattle.df_book.specs.Weights.{total, hit, Each}
use Rattle.df_book.specs.Logs.{at_log, with_log, IsPrefix, Within, longer}
use Rattle.df_book.specs.Views.{longer_each, own_first}
use Rattle.df_book.proofs.Sums.{hit-same, hit-else}

pub prefix-refl : (xs : List Entry) → IsPrefix xs xs
prefix-refl [] = tt
prefix-refl (x ∷ xs) = (refl, prefix-refl xs)

pub prefix-trans : (xs ys zs : List Entry) → IsPrefix xs ys → IsPrefix ys zs → IsPrefix xs zs
prefix-trans [] ys zs p q = tt
prefix-trans (x ∷ xs) [] zs p q = absurd p
prefix-trans (x ∷ xs) (y ∷ ys) [] p q = absurd q
prefix-trans (x ∷ xs) (y ∷ ys) (z ∷ zs) p q = (p.0 ∙ q.0, prefix-trans xs ys zs p.1 q.1)

pub prefix-append : (xs ys : List Entry) → IsPrefix xs (xs ++ ys)
prefix-append [] ys = tt
prefix-append (x ∷ xs) ys = (refl, prefix-append xs ys)

pub prefix-longer : (xs ys l : List Entry) → IsPrefix xs l → IsPrefix ys l → IsPrefix (longer xs ys) l
prefix-longer [] ys l p q = q
prefix-longer (x ∷ xs) [] l p q = p
prefix-longer (x ∷ xs) (y ∷ ys) [] p q = p
prefix-longer (x ∷ xs) (y ∷ ys) (z ∷ l) p q = (p.0, prefix-longer xs ys l p.1 q.1)

pub left-longer : (xs ys : List Entry) → IsPrefix xs (longer xs ys)
left-longer [] ys = tt
left-longer (x ∷ xs) [] = prefix-refl (x ∷ xs)
left-longer (x ∷ xs) (y ∷ ys) = (refl, left-longer xs ys)

pub right-longer : (xs ys l : List Entry) → IsPrefix xs l → IsPrefix ys l → IsPrefix ys (longer xs ys)
right-longer [] ys l p q = prefix-refl ys
right-longer (x ∷ xs) [] l p q = tt
right-longer (x ∷ xs) (y ∷ ys) [] p q = absurd p
right-longer (x ∷ xs) (y ∷ ys) (z ∷ l) p q = (q.0 ∙ sym p.0, right-longer xs ys l p.1 q.1)

pub longer-nil : (xs : List Entry) → longer xs [] ≡ xs
longer-nil [] = refl
longer-nil (x ∷ xs) = refl

pub whole-left : (l ys : List Entry) → IsPrefix ys l → longer l ys ≡ l
whole-left [] [] p = refl
whole-left [] (y ∷ ys) p = absurd p
whole-left (x ∷ l) [] p = refl
whole-left (x ∷ l) (y ∷ ys) p = ap (λ (t : List Entry). x ∷ t) (whole-left l ys p.1)

pub whole-right : (xs l : List Entry) → IsPrefix xs l → longer xs l ≡ l
whole-right [] l p = refl
whole-right (x ∷ xs) [] p = absurd p
whole-right (x ∷ xs) (y ∷ l) p = λ i. p.0 i ∷ whole-right xs l p.1 i

pub at-longer : (xs ys : List (List Entry)) (s : ℕ) → at_log (longer_each xs ys) s ≡ longer (at_log xs s) (at_log ys s)
at-longer [] ys s = refl
at-longer (x ∷ xs) [] s = sym (longer-nil (at_log (x ∷ xs) s))
at-longer (x ∷ xs) (y ∷ ys) zero = refl
at-longer (x ∷ xs) (y ∷ ys) (suc s) = at-longer xs ys s

pub at-with : (xs : List (List Entry)) (s : ℕ) (x : List Entry) → at_log (with_log xs s x) s ≡ x
at-with [] zero x = refl
at-with [] (suc s) x = at-with [] s x
at-with (y ∷ ys) zero x = refl
at-with (y ∷ ys) (suc s) x = at-with ys s x

pub at-with_else : (xs : List (List Entry)) (s : ℕ) (x : List Entry) (j : ℕ) → j ≢ s → at_log (with_log xs s x) j ≡ at_log xs j
at-with_else [] zero x zero n = absurd (n refl)
at-with_else [] zero x (suc j) n = refl
at-with_else [] (suc s) x zero n = refl
at-with_else [] (suc s) x (suc j) n = at-with_else [] s x j (λ e. n (ap suc e))
at-with_else (y ∷ ys) zero x zero n = absurd (n refl)
at-with_else (y ∷ ys) zero x (suc j) n = refl
at-with_else (y ∷ ys) (suc s) x zero n = refl
at-with_else (y ∷ ys) (suc s) x (suc j) n = at-with_else ys s x j (λ e. n (ap suc e))

pub prefix-each : (P : Entry → Type 0) (xs ys : List Entry) → IsPrefix xs ys → Each P ys → Each P xs
prefix-each P [] ys p e = tt
prefix-each P (x ∷ xs) [] p e = absurd p
prefix-each P (x ∷ xs) (y ∷ ys) p e = (subst P (sym p.0) e.0, prefix-each P xs ys p.1 e.1)

pub within-longer : (xs ys logs : List (List Entry)) → Within xs logs → Within ys logs → Within (longer_each xs ys) logs
within-longer xs ys logs p q s = subst (λ (l : List Entry). IsPrefix l (at_log logs s)) (sym (at-longer xs ys s)) (prefix-longer (at_log xs s) (at_log ys s) (at_log logs s) (p s) (q s))

pub within-left : (xs ys : List (List Entry)) → Within xs (longer_each xs ys)
within-left xs ys s = subst (IsPrefix (at_log xs s)) (sym (at-longer xs ys s)) (left-longer (at_log xs s) (at_log ys s))

pub within-right : (xs ys logs : List (List Entry)) → Within xs logs → Within ys logs → Within ys (longer_each xs ys)
within-right xs ys logs p q s = subst (IsPrefix (at_log ys s)) (sym (at-longer xs ys s)) (right-longer (at_log xs s) (at_log ys s) (at_log logs s) (p s) (q s))

pub within-with : (xs logs : List (List Entry)) (s : ℕ) (x : List Entry) → Within xs logs → IsPrefix x (at_log logs s) → Within (with_log xs s x) logs
within-with xs logs s x p q j = dite (ℕ_discrete j s) (λ (e : j ≡ s). subst (λ (i : ℕ). IsPrefix (at_log (with_log xs s x) i) (at_log logs i)) (sym e) (subst (λ (l : List Entry). IsPrefix l (at_log logs s)) (sym (at-with xs s x)) q))
    (λ (n : j ≢ s). subst (λ (l : List Entry). IsPrefix l (at_log logs j)) (sym (at-with_else xs s x j n)) (p j))

-- one log grows
pub within-grown : (xs logs : List (List Entry)) (s : ℕ) (more : List Entry) → Within xs logs → Within xs (with_log logs s (at_log logs s ++ more))
within-grown xs logs s more p j = dite (ℕ_discrete j s)
    (λ (e : j ≡ s). subst (λ (i : ℕ). IsPrefix (at_log xs i) (at_log (with_log logs s (at_log logs s ++ more)) i)) (sym e) (subst (IsPrefix (at_log xs s)) (sym (at-with logs s (at_log logs s ++ more))) (prefix-trans (at_log xs s) (at_log logs s) (at_log logs s ++ more) (p s) (prefix-append (at_log logs s) more))))
    (λ (n : j ≢ s). subst (IsPrefix (at_log xs j)) (sym (at-with_else logs s (at_log logs s ++ more) j n)) (p j))

pub at-own : (T : ℕ → List Entry) (ss : List ℕ) (xs ys : List (List Entry)) → Each (λ (s : ℕ). at_log xs s ≡ T s) ss → ((s : ℕ) → at_log ys s ≡ T s) → (s : ℕ) → at_log (own_first ss xs ys) s ≡ T s
at-own T [] xs ys e a s = a s
at-own T (j ∷ ss) xs ys e a s = dite (ℕ_discrete s j)
    (λ (is : s ≡ j). subst (λ (i : ℕ). at_log (with_log (own_first ss xs ys) j (at_log xs j)) i ≡ T i) (sym is) (at-with (own_first ss xs ys) j (at_log xs j) ∙ e.0))
    (λ (no : s ≢ j). at-with_else (own_first ss xs ys) j (at_log xs j) s no ∙ at-own T ss xs ys e.1 a s)

pub prefix-total : (g : Entry → ℕ) (xs ys : List Entry) → IsPrefix xs ys → total g xs ≤ total g ys
prefix-total g [] ys p = omega arith
prefix-total g (x ∷ xs) [] p = absurd p
prefix-total g (x ∷ xs) (y ∷ ys) p = omega (arith, ap g p.0, prefix-total g xs ys p.1)

-- of the logs of two seats, the owner's own
pub own-here : (ss : List ℕ) (xs ys : List (List Entry)) (s : ℕ) → 0 < total (hit s) ss → at_log (own_first ss xs ys) s ≡ at_log xs s
own-here [] xs ys s h = absurd (omega (arith, h))
own-here (j ∷ ss) xs ys s h = dite (ℕ_discrete s j)
    (λ (is : s ≡ j). subst (λ (i : ℕ). at_log (with_log (own_first ss xs ys) j (at_log xs j)) i ≡ at_log xs i) (sym is) (at-with (own_first ss xs ys) j (at_log xs j)))
    (λ (ne : s ≢ j). at-with_else (own_first ss xs ys) j (at_log xs j) s ne ∙ own-here ss xs ys s (omega (arith, h, hit-else s j (λ e. ne (sym e)))))

pub own-else : (ss : List ℕ) (xs ys : List (List Entry)) (s : ℕ) → total (hit s) ss ≡ 0 → at_log (own_first ss xs ys) s ≡ at_log ys s
own-else [] xs ys s h = refl
own-else (j ∷ ss) xs ys s h = dite (ℕ_discrete s j)
    (λ (is : s ≡ j). absurd (omega (arith, h, hit-same j, ap (λ (i : ℕ). hit i j) is)))
    (λ (ne : s ≢ j). at-with_else (own_first ss xs ys) j (at_log xs j) s ne ∙ own-else ss xs ys s (omega (arith, h)))

pub within-refl : (a : List (List Entry)) → Within a a
within-refl a s = prefix-refl (at_log a s)

pub within-trans : (a b c : List (List Entry)) → Within a b → Within b c → Within a c
within-trans a b c p q s = prefix-trans (at_log a s) (at_log b s) (at_log c s) (p s) (q s)
