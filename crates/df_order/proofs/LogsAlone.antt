-- Logs in order, with what they were told, make one legal history.
use Rattle.std.proofs.Common.{◌≡◌, ℕ, zero, suc, ◌+◌, ◌<◌, ◌≤◌, Bool, true, false, not, List, [], ◌∷◌, Option, Some, None, inl, inr, refl, sym, ap, ◌∙◌, subst, arith, eqb}
use Rattle.std.proofs.lemmas.Bool.{cases_lt, false≢true, and_parts, or_cases, or_left, or_right, or_parts}
use Rattle.std.specs.Prelude.{is_none}
use Rattle.df_order.specs.Lists.{Has, Chain, cons_if}
use Rattle.df_order.specs.Model.{Model, Laws, names_none, own, upto, replay, FitAll, TellAll, Before}
use Rattle.df_order.specs.Histories.{Item, Legal, LegalTo, Rising, is_nil, some_entry, executed, entries, item, items_where, items, Recorded, state_at, keyspace_at, NumberStands}
use Rattle.df_order.proofs.Lists.{chain_only, chain_map, nil_none}
use Rattle.df_order.proofs.Commute.{sorted, fit_back, fit_upto, replay_append, has_own, own_has, good_next}

nil_is : {X : Type 0} (xs : List X) → not (is_nil xs) ≡ false → xs ≡ []
nil_is [] e = refl
nil_is (x ∷ xs) e = absurd (false≢true (sym e))

not_nil : {X : Type 0} (xs : List X) (x : X) → Has xs x → not (is_nil xs) ≡ true
not_nil [] x h = absurd h
not_nil (y ∷ xs) x h = refl

-- a list that isn't empty has a first
head_of : {X : Type 0} (xs : List X) → not (is_nil xs) ≡ true → (x : X) × Has xs x
head_of [] e = absurd (false≢true e)
head_of (x ∷ xs) e = (x, inl refl)

none_is : {X : Type 0} (o : Option X) → is_none o ≡ true → o ≡ None
none_is None e = refl
none_is (Some x) e = absurd (false≢true e)

-- ---- whose entries the logs have

module _ (M : Model) (logs : ℕ → List M.Entry) where
  pub has_entry : (n t s : ℕ) (e : M.Entry) → s < t → Has (logs s) e → M.number e ≡ n → some_entry M logs n t ≡ true
  has_entry n zero s e lt h i = absurd (omega (arith, lt))
  has_entry n (suc t) s e lt h i = elim (cases_lt s t) [
    | inl l ↦ or_right (not (is_nil (own M n (logs t)))) (some_entry M logs n t) (has_entry n t s e l h i)
    | inr ge ↦ (let j : s ≡ t = omega arith in
        or_left (not (is_nil (own M n (logs t)))) (some_entry M logs n t)
        (not_nil (own M n (logs t)) e (own_has M n (logs t) e (subst (λ u. Has (logs u) e) j h) i)))
  ]

  none_own : (n t : ℕ) → some_entry M logs n t ≡ false → (s : ℕ) → s < t → own M n (logs s) ≡ []
  none_own n zero e s l = absurd (omega (arith, l))
  none_own n (suc t) e s l =
      let w = or_parts (not (is_nil (own M n (logs t)))) (some_entry M logs n t) e in
      elim (cases_lt s t) [
        | inl lt ↦ none_own n t w.1 s lt
        | inr ge ↦ (let i : t ≡ s = omega arith in subst (λ j. own M n (logs j) ≡ []) i (nil_is (own M n (logs t)) w.0))
      ]

  pub none_all : ((s : ℕ) → M.shards ≤ s → logs s ≡ []) → (n : ℕ) → some_entry M logs n M.shards ≡ false → (s : ℕ) →
      own M n (logs s) ≡ []
  none_all within n e s = elim (cases_lt s M.shards) [
    | inl lt ↦ none_own n M.shards e s lt
    | inr ge ↦ ap (own M n) (within s ge)
  ]

-- an entry of the number, where one of the first shards has some
pub has_some : (M : Model) (logs : ℕ → List M.Entry) (n t : ℕ) → some_entry M logs n t ≡ true →
    (s : ℕ) × (e : M.Entry) × Has (own M n (logs s)) e
has_some M logs n zero h = absurd (false≢true h)
has_some M logs n (suc t) h = elim (or_cases (not (is_nil (own M n (logs t)))) (some_entry M logs n t) h) [
  | inl a ↦ (let v = head_of (own M n (logs t)) a in (t, v.0, v.1))
  | inr b ↦ has_some M logs n t b
]

-- a call that names none of the first shards asks for nothing there
pub names_none_at : (M : Model) (c : M.Call) (t : ℕ) → names_none M c t ≡ true → (s : ℕ) → s < t →
    M.footprint c s ≡ None
names_none_at M c zero e s lt = absurd (omega (arith, lt))
names_none_at M c (suc t) e s lt =
    let a = and_parts (is_none (M.footprint c t)) (names_none M c t) e in
    elim (cases_lt s t) [
      | inl l ↦ names_none_at M c t a.1 s l
      | inr ge ↦ (let i : t ≡ s = omega arith in subst (λ j. M.footprint c j ≡ None) i (none_is (M.footprint c t) a.0))
    ]

-- ---- histories

module _ (M : Model) where
  pub legal_to : (history : List (Item M)) (space last : M.Space) → LegalTo M space history last → Legal M space history
  legal_to [] space last l = tt
  legal_to (i ∷ history) space last l = (l.0, l.1, legal_to history l.0 last l.2)

  module _ (calls : ℕ → M.Call) (logs : ℕ → List M.Entry) (replies : ℕ → M.Reply) (passes : ℕ → Bool) where
    items_from : (n count : ℕ) (i : Item M) → Has (items_where M calls logs replies passes n count) i → n ≤ i.number
    items_from n zero i h = absurd h
    items_from n (suc count) i h = go (passes n) (items_from (suc n) count i) h
      where
        go : (b : Bool) → (Has (items_where M calls logs replies passes (suc n) count) i → suc n ≤ i.number) →
            Has (cons_if b (item M calls logs replies n) (items_where M calls logs replies passes (suc n) count)) i →
            n ≤ i.number
        go true f (inl e) = let j : n ≡ i.number = ap (λ r. r.number) e in omega arith
        go true f (inr k) = omega (arith, f k)
        go false f k = omega (arith, f k)

    -- the items of numbers in turn rise
    pub items_rise : (n count : ℕ) → Rising M (items_where M calls logs replies passes n count)
    items_rise n zero = tt
    items_rise n (suc count) = go (passes n) (items_rise (suc n) count)
      where
        go : (b : Bool) → Rising M (items_where M calls logs replies passes (suc n) count) →
            Rising M (cons_if b (item M calls logs replies n) (items_where M calls logs replies passes (suc n) count))
        go true r = (λ i h. items_from (suc n) count i h, r)
        go false r = r

  -- two tests that agree pick the same items from logs that have the same entries of what passes
  pub items_alike : (calls : ℕ → M.Call) (logs logs' : ℕ → List M.Entry) (replies : ℕ → M.Reply) (passes passes' : ℕ → Bool) →
      ((n : ℕ) → passes n ≡ passes' n) → ((n : ℕ) → passes' n ≡ true → entries M logs n ≡ entries M logs' n) →
      (n count : ℕ) →
      items_where M calls logs replies passes n count ≡ items_where M calls logs' replies passes' n count
  items_alike calls logs logs' replies passes passes' same alike n zero = refl
  items_alike calls logs logs' replies passes passes' same alike n (suc count) = go (passes' n) refl
      (items_alike calls logs logs' replies passes passes' same alike (suc n) count)
    where
      go : (b : Bool) → passes' n ≡ b →
          items_where M calls logs replies passes (suc n) count ≡ items_where M calls logs' replies passes' (suc n) count →
          items_where M calls logs replies passes n (suc count) ≡ items_where M calls logs' replies passes' n (suc count)
      go true f ih =
          ap (λ b. cons_if b (item M calls logs replies n) (items_where M calls logs replies passes (suc n) count))
          (same n ∙ f)
          ∙ (λ i. record { number = n; call = calls n; marks = M.marks (calls n) (alike n f i); reply = replies n } ∷ ih i)
          ∙ sym (ap (λ b. cons_if b (item M calls logs' replies n) (items_where M calls logs' replies passes' (suc n) count)) f)
      go false f ih =
          ap (λ b. cons_if b (item M calls logs replies n) (items_where M calls logs replies passes (suc n) count))
          (same n ∙ f)
          ∙ ih
          ∙ sym (ap (λ b. cons_if b (item M calls logs' replies n) (items_where M calls logs' replies passes' (suc n) count)) f)

-- ---- the history that logs tell

module _ (M : Model) (laws : Laws M) (calls : ℕ → M.Call) (count : ℕ) (start : ℕ → M.State) (logs : ℕ → List M.Entry)
    (replies : ℕ → M.Reply) (recorded : Recorded M calls count start logs replies) where
  -- what is staged is at any time its call's to write, so an entry that was told what it gives fits
  fit_from : (s : ℕ) (x : M.State) (log : List M.Entry) → ((n : ℕ) → M.Good s (calls n) n x) → TellAll M calls s x log →
      FitAll M calls s x log
  fit_from s x [] good t = tt
  fit_from s x (e ∷ log) good t =
      ((t.0, good (M.number e)), fit_from s (M.effect e x) log (good_next M laws calls s e x t.0 good) t.1)

  pub fit_all : (s : ℕ) → FitAll M calls s (start s) (logs s)
  fit_all s = fit_from s (start s) (logs s) (λ n. recorded.clean s n (calls n)) (recorded.telling s)

  -- the entries of a number fit in the state at the number
  fit_own : (s n : ℕ) → n ≤ count → FitAll M calls s (state_at M start logs n s) (own M n (logs s))
  fit_own s n le =
      let all = (sorted M laws calls s (suc count) (start s) (logs s) (recorded.in_order s)
      (λ e h. omega (arith, (recorded.drawn s e h).1)) (fit_all s)).fits in
      fit_back M calls s (start s) (upto M n (logs s)) (own M n (logs s))
      (fit_upto M calls s (start s) (logs s) (suc n) (suc count) (omega arith) all)

  -- the hops of one number rise
  own_rises : (s n : ℕ) → Chain (λ e f. M.hop e < M.hop f) (own M n (logs s))
  own_rises s n = chain_map (Before M calls s) (λ e f. M.hop e < M.hop f) (own M n (logs s))
      (λ e f he hf b. b.rises ((has_own M n (logs s) e he).1 ∙ sym (has_own M n (logs s) f hf).1))
      (chain_only (Before M calls s) (λ e. eqb (M.number e) n) (logs s) (recorded.in_order s))

  state_next : (n : ℕ) → state_at M start logs (suc n) ≡ (λ s. replay M (state_at M start logs n s) (own M n (logs s)))
  state_next n = λ i s. replay_append M (start s) (upto M n (logs s)) (own M n (logs s)) i

  -- no entry is of number 0
  state_first : state_at M start logs 1 ≡ start
  state_first = λ i s. replay M (start s)
      (nil_none (own M 0 (logs s)) (λ e h. let w = has_own M 0 (logs s) e h in omega (arith, w.1, (recorded.drawn s e w.0).0)) i)

  reaches_from : (m n : ℕ) → n + m ≤ suc count →
      LegalTo M (keyspace_at M start logs n) (items M calls logs replies n m) (keyspace_at M start logs (n + m))
  reaches_from zero n le = ap (keyspace_at M start logs) (let e : n ≡ n + 0 = omega arith in e)
  reaches_from (suc m) n le =
      let next : suc n + m ≡ n + suc m = omega arith in
      go (executed M calls logs n) refl
      (subst (λ j. LegalTo M (keyspace_at M start logs (suc n)) (items M calls logs replies (suc n) m)
      (keyspace_at M start logs j)) next (reaches_from m (suc n) (omega arith)))
    where
      go : (b : Bool) → executed M calls logs n ≡ b →
          LegalTo M (keyspace_at M start logs (suc n)) (items M calls logs replies (suc n) m) (keyspace_at M start logs (n + suc m)) →
          LegalTo M (keyspace_at M start logs n)
          (cons_if b (item M calls logs replies n) (items M calls logs replies (suc n) m))
          (keyspace_at M start logs (n + suc m))
      go true e r = (
        M.joined (λ s. replay M (state_at M start logs n s) (own M n (logs s))),
        laws.composes calls n (entries M logs n) (state_at M start logs n) (replies n) (recorded.complete n e)
            (λ s. fit_own s n (omega arith)) (λ s f h. (has_own M n (logs s) f h).1) (λ s. own_rises s n),
        subst (λ f. LegalTo M (M.joined f) (items M calls logs replies (suc n) m) (keyspace_at M start logs (n + suc m)))
            (state_next n) r,
      )
      go false e r =
          let nil : (s : ℕ) → own M n (logs s) ≡ [] = none_all M logs recorded.within n
          (or_parts (names_none M (calls n) M.shards) (some_entry M logs n M.shards) e).1 in
          subst (λ f. LegalTo M (M.joined f) (items M calls logs replies (suc n) m) (keyspace_at M start logs (n + suc m)))
          (state_next n ∙ (λ i s. replay M (state_at M start logs n s) (nil s i))) r

  -- the items of the first numbers lead to the keyspace at the next
  pub reaches : (n : ℕ) → n ≤ count →
      LegalTo M (M.joined start) (items M calls logs replies 1 n) (keyspace_at M start logs (suc n))
  reaches n le =
      subst (λ f. LegalTo M (M.joined f) (items M calls logs replies 1 n) (keyspace_at M start logs (suc n))) state_first
      (subst (λ j. LegalTo M (keyspace_at M start logs 1) (items M calls logs replies 1 n) (keyspace_at M start logs j))
      (let e : 1 + n ≡ suc n = omega arith in e) (reaches_from n 1 (omega arith)))

  pub number_stands : (n : ℕ) → n < count → NumberStands M calls start logs replies n
  number_stands n lt = record { reached = reaches n (omega arith); fitting = λ s. fit_own s (suc n) (omega arith) }

  pub legal : Legal M (M.joined start) (items M calls logs replies 1 count)
  legal = legal_to M (items M calls logs replies 1 count) (M.joined start) (keyspace_at M start logs (suc count))
      (reaches count (omega arith))
