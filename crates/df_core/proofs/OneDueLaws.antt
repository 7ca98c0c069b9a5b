-- What is due as a hop is one act.
use Rattle.std.proofs.Common.{◌≡◌, ℕ, zero, suc, ◌<◌, Bool, true, false, cond, not, List, [], ◌∷◌, inl, inr, refl, sym, ap, ◌∙◌, subst, arith}
use Rattle.std.specs.Prelude.{Some, None, ◌==◌, ◌/◌, ◌%◌, ◌||◌}
use Rattle.std.proofs.lemmas.Bool.{false≢true, and_parts, cases_lt}
use Rattle.std.proofs.lemmas.Option.{none-some, cond_some}
use Rattle.df_model.specs.Values.{Bytes}
use Rattle.df_model.specs.Keyspace.{Keyspace}
use Rattle.df_model.specs.declared.command.Command.{Command}
use Rattle.df_footprints.specs.Footprints.{commands_of}
use Rattle.df_order.specs.Lists.{only}
use Rattle.df_order.proofs.Lists.{only_append}
use Rattle.df_log.specs.Acts.{Act, Run, Read, Stage, Apply, Unstage, Begin, Walk, Count, Clear}
use Rattle.df_core.specs.Courses.{Course, Nowhere, Alone, Spread, Counts, Cuts, Clears, course_of, keys_on, changes_on}
use Rattle.df_core.specs.Courses as courses
use Rattle.df_core.specs.Steps.{Step}
use Rattle.df_core.specs.Due.{every, is_nil, values_of, with_values, read_on, values_read, all_read, first_due, clear_due, due_by, may_end_by, of_command, due_from}
use Rattle.df_core.specs.OneDue.{Comparable}
use Rattle.df_core.specs.Laws.{DueIsOne}
use Rattle.df_core.proofs.DueLaws.{cond_found}

-- two tests of one act
one_act : (p q : Bool) (x y a b : Act) → x ≡ y → cond p (Some x) None ≡ Some a → cond q (Some y) None ≡ Some b → a ≡ b
one_act p q x y a b e h k = sym (cond_some p x a h).1 ∙ e ∙ (cond_some q y b k).1

every_at : (p : ℕ → Bool) (n : ℕ) → every p n ≡ true → (t : ℕ) → t < n → p t ≡ true
every_at p zero h t lt = absurd (omega (arith, lt))
every_at p (suc n) h t lt = elim (cases_lt t n) [
  | inl low ↦ every_at p n (and_parts (p n) (every p n) h).1 t low
  | inr ge ↦ (let is : n ≡ t = omega (arith, ge, lt) in subst (λ u. p u ≡ true) is (and_parts (p n) (every p n) h).0)
]

comparable_only : (p : Step → Bool) (xs ys : List Step) → Comparable xs ys → Comparable (only p xs) (only p ys)
comparable_only p xs ys (inl m) = inl (only p m.0, ap (only p) m.1 ∙ only_append p xs m.0)
comparable_only p xs ys (inr m) = inr (only p m.0, ap (only p) m.1 ∙ only_append p ys m.0)

-- both have begun, so they begin with the same
values_same : (xs ys : List Step) → Comparable xs ys → not (is_nil xs) ≡ true → not (is_nil ys) ≡ true → values_of xs ≡ values_of ys
values_same [] ys c h k = absurd (false≢true h)
values_same (x ∷ xs) [] c h k = absurd (false≢true k)
values_same (x ∷ xs) (y ∷ ys) (inl m) h k = sym (ap values_of m.1)
values_same (x ∷ xs) (y ∷ ys) (inr m) h k = ap values_of m.1

module _ (shards : ℕ) (command : Command) (xs ys : ℕ → List Step) (near : (t : ℕ) → Comparable (xs t) (ys t)) where
  with_same : (keys : List Bytes) (t : ℕ) (K L : Keyspace) → K ≡ L → is_nil keys || not (is_nil (xs t)) ≡ true → is_nil keys || not (is_nil (ys t)) ≡ true →
      with_values keys (values_of (xs t)) K ≡ with_values keys (values_of (ys t)) L
  with_same [] t K L e h k = e
  with_same (key ∷ keys) t K L e h k = λ j. with_values (key ∷ keys) (values_same (xs t) (ys t) (near t) h k j) (e j)

  read_same : (n : ℕ) → ((t : ℕ) → t < n → is_nil (keys_on shards t command) || not (is_nil (xs t)) ≡ true) →
      ((t : ℕ) → t < n → is_nil (keys_on shards t command) || not (is_nil (ys t)) ≡ true) →
      read_on shards command xs n ≡ read_on shards command ys n
  read_same zero h k = refl
  read_same (suc n) h k = with_same (keys_on shards n command) n (read_on shards command xs n) (read_on shards command ys n)
      (read_same n (λ t lt. h t (omega (arith, lt))) (λ t lt. k t (omega (arith, lt)))) (h n (omega arith)) (k n (omega arith))

  changes_same : (s : ℕ) → all_read shards command xs ≡ true → all_read shards command ys ≡ true →
      changes_on shards s command (values_read shards command xs) ≡ changes_on shards s command (values_read shards command ys)
  changes_same s h k = ap (changes_on shards s command) (read_same shards
      (every_at (λ t. is_nil (keys_on shards t command) || not (is_nil (xs t))) shards h)
      (every_at (λ t. is_nil (keys_on shards t command) || not (is_nil (ys t))) shards k))

  one_spread : (s j : ℕ) (a b : Act) → due_by shards command Spread xs s j ≡ Some a → due_by shards command Spread ys s j ≡ Some b → a ≡ b
  one_spread s zero a b h k = one_act _ _ (Read (keys_on shards s command)) (Read (keys_on shards s command)) a b refl h k
  one_spread s (suc zero) a b h k =
      one_act _ _ (Stage (changes_on shards s command (values_read shards command xs))) (Stage (changes_on shards s command (values_read shards command ys))) a b
      (ap Stage (changes_same s
      (and_parts (all_read shards command xs) _ (and_parts _ _ (cond_found _ (Some (Stage (changes_on shards s command (values_read shards command xs)))) a h).0).0).0
      (and_parts (all_read shards command ys) _ (and_parts _ _ (cond_found _ (Some (Stage (changes_on shards s command (values_read shards command ys)))) b k).0).0).0)) h k
  one_spread s (suc (suc zero)) a b h k = one_act _ _ Apply Apply a b refl h k
  one_spread s (suc (suc (suc j))) a b h k = one_act _ _ Unstage Unstage a b refl h k

  one_clear : (p q : Bool) (r t : Bool) (us vs : List Step) (j : ℕ) (a b : Act) → clear_due p q us j ≡ Some a → clear_due r t vs j ≡ Some b → a ≡ b
  one_clear p q r t us vs zero a b h k = absurd (none-some a h)
  one_clear p q r t us vs (suc zero) a b h k = one_act _ _ (Stage []) (Stage []) a b refl h k
  one_clear p q r t us vs (suc (suc zero)) a b h k = one_act _ _ Clear Clear a b refl h k
  one_clear p q r t us vs (suc (suc (suc j))) a b h k = one_act _ _ Unstage Unstage a b refl h k

  one_first : (act : Act) (us vs : List Step) (j : ℕ) (a b : Act) → first_due act us j ≡ Some a → first_due act vs j ≡ Some b → a ≡ b
  one_first act us vs zero a b h k = one_act _ _ act act a b refl h k
  one_first act us vs (suc j) a b h k = absurd (none-some a h)

  one_by : (course : Course) (s j : ℕ) (a b : Act) → due_by shards command course xs s j ≡ Some a → due_by shards command course ys s j ≡ Some b → a ≡ b
  one_by Nowhere s j a b h k = absurd (none-some a h)
  one_by (Alone t) s j a b h k = one_first (Run command) (xs s) (ys s) j a b (cond_found (t == s) _ a h).1 (cond_found (t == s) _ b k).1
  one_by Spread s j a b h k = one_spread s j a b h k
  one_by courses.Names s j a b h k = one_first Walk (xs s) (ys s) j a b h k
  one_by Counts s j a b h k = one_first Count (xs s) (ys s) j a b h k
  one_by Cuts s j a b h k = one_first Begin (xs s) (ys s) j a b h k
  one_by Clears s j a b h k = one_clear _ _ _ _ (xs s) (ys s) j a b h k

one_from : (shards i : ℕ) (commands : List Command) (xs ys : ℕ → List Step) (near : (t : ℕ) → Comparable (xs t) (ys t)) (s hop : ℕ) (a b : Act) →
    due_from shards i commands xs s hop ≡ Some a → due_from shards i commands ys s hop ≡ Some b → a ≡ b
one_from shards i [] xs ys near s hop a b h k = absurd (none-some a h)
one_from shards i (command ∷ commands) xs ys near s hop a b h k = go (λ u v. one_from shards (suc i) commands xs ys near s hop a b u v) (hop / 4 == i) h k
  where
    own : (t : ℕ) → Comparable (of_command i (xs t)) (of_command i (ys t))
    own t = comparable_only (λ x. x.hop / 4 == i) (xs t) (ys t) (near t)

    go : (due_from shards (suc i) commands xs s hop ≡ Some a → due_from shards (suc i) commands ys s hop ≡ Some b → a ≡ b) → (c : Bool) →
        cond c (due_by shards command (course_of shards command) (λ t. of_command i (xs t)) s (hop % 4))
        (cond (may_end_by shards command (course_of shards command) (λ t. of_command i (xs t))) (due_from shards (suc i) commands xs s hop) None) ≡ Some a →
        cond c (due_by shards command (course_of shards command) (λ t. of_command i (ys t)) s (hop % 4))
        (cond (may_end_by shards command (course_of shards command) (λ t. of_command i (ys t))) (due_from shards (suc i) commands ys s hop) None) ≡ Some b → a ≡ b
    go behind true h k = one_by shards command (λ t. of_command i (xs t)) (λ t. of_command i (ys t)) own (course_of shards command) s (hop % 4) a b h k
    go behind false h k = behind (cond_found _ _ a h).1 (cond_found _ _ b k).1

pub one_due : DueIsOne
one_due shards call xs ys s hop a b near h k =
    one_from shards 0 (commands_of call) xs ys near s hop a b (cond_found _ _ a h).1 (cond_found _ _ b k).1
