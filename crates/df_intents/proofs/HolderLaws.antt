-- Laws of holders: who conflicts with them, what a number holds, and what a release leaves.
use Rattle.std.proofs.Common.{◌≡◌, ℕ, ◌+◌, Bool, true, false, cond, ◌==◌, ◌&&◌, ◌||◌, not, List, [], ◌∷◌, ◌++◌, length, refl, sym, ap, subst, ◌∙◌, arith}
use Rattle.std.proofs.lemmas.Bool.{cond_both, eqb-true, eqb-false, eq-eqb, false≢true}
use Rattle.std.specs.Prelude.{Option, Some, None, is_some}
use Rattle.df_model.specs.declared.keys.Keys.{Keys}
use Rattle.df_footprints.specs.Asks.{Ask, asks, clashes_with, conflicts, some_clash}
use Rattle.df_intents.specs.Holders.{Holder, holds, is_free, keys_of, without}
use Rattle.df_intents.specs.Counting.{held}
use Rattle.df_intents.specs.Kept.{Once}
use Rattle.df_intents.proofs.AskLaws.{clashes-append, none_held, some-append}

-- ---- who conflicts

not_or : (p q : Bool) → (not p && not q) ≡ not (p || q)
not_or true q = refl
not_or false q = refl

-- keys are free where none of their asks clashes with what is held
pub free_held : (keys : Keys) (hs : List Holder) → is_free keys hs ≡ not (some_clash (asks keys) (held hs))
free_held keys [] = ap not (sym (none_held (asks keys)))
free_held keys (h ∷ hs) =
    ap (λ r. not (conflicts keys h.keys) && r) (free_held keys hs)
    ∙ not_or (conflicts keys h.keys) (some_clash (asks keys) (held hs))
    ∙ ap not (sym (some-append (asks keys) (asks h.keys) (held hs)))

or_left : (p q : Bool) → p ≡ true → (p || q) ≡ true
or_left true q e = refl
or_left false q e = absurd (false≢true e)

or_right : (p q : Bool) → q ≡ true → (p || q) ≡ true
or_right true q e = refl
or_right false q e = e

-- a number that holds something which clashes
pub clash_found : (a : Ask) (hs : List Holder) (number : ℕ) (keys : Keys) → keys_of number hs ≡ Some keys → clashes_with a (asks keys) ≡ true → clashes_with a (held hs) ≡ true
clash_found a [] number keys e clash = cc
clash_found a (h ∷ hs) number keys e clash =
    clashes-append a (asks h.keys) (held hs) ∙ first (h.number == number) e (λ f. clash_found a hs number keys f clash)
  where
    first : (b : Bool) → cond b (Some h.keys) (keys_of number hs) ≡ Some keys → (keys_of number hs ≡ Some keys → clashes_with a (held hs) ≡ true) → (clashes_with a (asks h.keys) || clashes_with a (held hs)) ≡ true
    first true e more = let is : h.keys ≡ keys = cc in or_left (clashes_with a (asks h.keys)) (clashes_with a (held hs)) (ap (λ k. clashes_with a (asks k)) is ∙ clash)
    first false e more = or_right (clashes_with a (asks h.keys)) (clashes_with a (held hs)) (more e)

-- what one holder of these has clashes with nothing
abbrev pub NoneClash : Ask → List Holder → Type 0
NoneClash a hs = (number : ℕ) (keys : Keys) → keys_of number hs ≡ Some keys → clashes_with a (asks keys) ≡ false

pub clash_none : (a : Ask) (hs : List Holder) → Once hs → NoneClash a hs → clashes_with a (held hs) ≡ false
clash_none a [] once none = refl
clash_none a (h ∷ hs) once none =
    clashes-append a (asks h.keys) (held hs)
    ∙ ap (λ r. r || clashes_with a (held hs)) (none h.number h.keys (ap (λ b. cond b (Some h.keys) (keys_of h.number hs)) (eq-eqb h.number h.number refl)))
    ∙ clash_none a hs once.1 (λ number keys e. none number keys (later (h.number == number) number keys refl e))
  where
    later : (b : Bool) (number : ℕ) (keys : Keys) → (h.number == number) ≡ b → keys_of number hs ≡ Some keys → cond b (Some h.keys) (keys_of number hs) ≡ Some keys
    later false number keys t e = e
    later true number keys t e =
        let is : h.number ≡ number = eqb-true h.number number t in
        let absent : keys_of number hs ≡ None = subst (λ n. keys_of n hs ≡ None) is once.0 in
        cc

-- ---- what a release leaves

none_either : (b : Bool) (o : Option Keys) → o ≡ None → cond b None o ≡ None
none_either true o e = refl
none_either false o e = e

pub keys_without : (number q : ℕ) (hs : List Holder) → keys_of q (without number hs) ≡ cond (number == q) None (keys_of q hs)
keys_without number q [] = sym (none_either (number == q) None refl)
keys_without number q (h ∷ hs) = first (h.number == number) refl (keys_without number q hs)
  where
    after : (b c : Bool) → (h.number == number) ≡ false → (number == q) ≡ b → (h.number == q) ≡ c → keys_of q (without number hs) ≡ cond b None (keys_of q hs) → cond c (Some h.keys) (keys_of q (without number hs)) ≡ cond b None (cond c (Some h.keys) (keys_of q hs))
    after true true apart s t e = absurd (eqb-false h.number number apart (eqb-true h.number q t ∙ sym (eqb-true number q s)))
    after false true apart s t e = refl
    after true false apart s t e = e
    after false false apart s t e = e

    gone : (b c : Bool) → (h.number == number) ≡ true → (number == q) ≡ b → (h.number == q) ≡ c → keys_of q (without number hs) ≡ cond b None (keys_of q hs) → keys_of q (without number hs) ≡ cond b None (cond c (Some h.keys) (keys_of q hs))
    gone true c same s t e = e
    gone false false same s t e = e
    gone false true same s t e = absurd (eqb-false number q s (sym (eqb-true h.number number same) ∙ eqb-true h.number q t))

    first : (b : Bool) → (h.number == number) ≡ b → keys_of q (without number hs) ≡ cond (number == q) None (keys_of q hs) → keys_of q (cond b (without number hs) (h ∷ without number hs)) ≡ cond (number == q) None (cond (h.number == q) (Some h.keys) (keys_of q hs))
    first true same e = gone (number == q) (h.number == q) same refl refl e
    first false apart e = after (number == q) (h.number == q) apart refl refl e

pub once_without : (number : ℕ) (hs : List Holder) → Once hs → Once (without number hs)
once_without number [] once = tt
once_without number (h ∷ hs) once =
    cond_both (h.number == number) (without number hs) (h ∷ without number hs) Once
    (λ e. once_without number hs once.1)
    (λ e. (keys_without number h.number hs ∙ none_either (number == h.number) (keys_of h.number hs) once.0, once_without number hs once.1))

same_without : (number : ℕ) (hs : List Holder) → keys_of number hs ≡ None → without number hs ≡ hs
same_without number [] e = refl
same_without number (h ∷ hs) e = first (h.number == number) e (same_without number hs)
  where
    first : (b : Bool) → cond b (Some h.keys) (keys_of number hs) ≡ None → (keys_of number hs ≡ None → without number hs ≡ hs) → cond b (without number hs) (h ∷ without number hs) ≡ h ∷ hs
    first true e more = cc
    first false e more = ap (λ xs. h ∷ xs) (more e)

-- a measure of what is held, to which each holder adds
module _ (size : List Ask → ℕ) (size-append : (xs ys : List Ask) → size (xs ++ ys) ≡ size xs + size ys) where
  pub size_without : (number : ℕ) (keys : Keys) (hs : List Holder) → Once hs → keys_of number hs ≡ Some keys → size (asks keys ++ held (without number hs)) ≡ size (held hs)
  size_without number keys [] once e = cc
  size_without number keys (h ∷ hs) once e = first (h.number == number) refl e (size_without number keys hs once.1)
    where
      first : (b : Bool) → (h.number == number) ≡ b → cond b (Some h.keys) (keys_of number hs) ≡ Some keys
          → (keys_of number hs ≡ Some keys → size (asks keys ++ held (without number hs)) ≡ size (held hs))
          → size (asks keys ++ held (cond b (without number hs) (h ∷ without number hs))) ≡ size (asks h.keys ++ held hs)
      first true t e more =
          let is : keys ≡ h.keys = cc in
          let absent : keys_of number hs ≡ None = subst (λ n. keys_of n hs ≡ None) (eqb-true h.number number t) once.0 in
          ap (λ xs. size (asks keys ++ held xs)) (same_without number hs absent) ∙ ap (λ k. size (asks k ++ held hs)) is
      first false t e more =
          let left = size-append (asks keys) (asks h.keys ++ held (without number hs)) in
          let mid = size-append (asks h.keys) (held (without number hs)) in
          let right = size-append (asks h.keys) (held hs) in
          let less = size-append (asks keys) (held (without number hs)) in
          let all = more e in
          omega (arith, left, mid, right, less, all)

pub length_without : (number : ℕ) (keys : Keys) (hs : List Holder) → Once hs → keys_of number hs ≡ Some keys → length (without number hs) + 1 ≡ length hs
length_without number keys [] once e = cc
length_without number keys (h ∷ hs) once e = first (h.number == number) refl e (length_without number keys hs once.1)
  where
    first : (b : Bool) → (h.number == number) ≡ b → cond b (Some h.keys) (keys_of number hs) ≡ Some keys → (keys_of number hs ≡ Some keys → length (without number hs) + 1 ≡ length hs)
        → length (cond b (without number hs) (h ∷ without number hs)) + 1 ≡ length (h ∷ hs)
    first true t e more =
        let absent : keys_of number hs ≡ None = subst (λ n. keys_of n hs ≡ None) (eqb-true h.number number t) once.0 in
        let same = ap length (same_without number hs absent) in
        omega (arith, same)
    first false t e more = let less = more e in omega (arith, less)

pub not_held : (number : ℕ) (hs : List Holder) → holds number hs ≡ false → keys_of number hs ≡ None
not_held number hs e = none (keys_of number hs) e
  where
    none : (o : Option Keys) → is_some o ≡ false → o ≡ None
    none None e = refl
    none (Some k) e = absurd (false≢true (sym e))
