-- A log does the same sorted by number, and without the calls that nothing behind them meets.
use Rattle.std.proofs.Common.{◌≡◌, ◌≢◌, ℕ, zero, suc, ◌<◌, ◌≤◌, Bool, true, false, List, [], ◌∷◌, ◌++◌, inl, inr, refl, sym, ap, ◌∙◌, subst, arith, eqb}
use Rattle.std.proofs.lemmas.Bool.{cases_lt, false≢true, eqb-true, eq-eqb, ne_eqb}
use Rattle.std.proofs.lemmas.Bool.Decides.{eqb_tells}
use Rattle.std.proofs.lemmas.List.{append-nil}
use Rattle.df_order.specs.Lists.{Has, Chain, cons_if, only}
use Rattle.df_order.specs.Model.{Model, Laws, clash, own, upto, replay, FitAll, TellAll, Before, IsInOrder, Alike}
use Rattle.df_order.proofs.Lists.{has_cases, has_only, only_has, only_append}

-- ---- entries of one number, and of the numbers below one

module _ (M : Model) where
  pub replay_append : (x : M.State) (es fs : List M.Entry) → replay M x (es ++ fs) ≡ replay M (replay M x es) fs
  replay_append x [] fs = refl
  replay_append x (e ∷ es) fs = replay_append (M.effect e x) es fs

  pub has_own : (n : ℕ) (log : List M.Entry) (e : M.Entry) → Has (own M n log) e → Has log e × (M.number e ≡ n)
  has_own n log e h = let r = has_only (λ f. eqb (M.number f) n) log e h in (r.0, eqb-true (M.number e) n r.1)

  pub own_has : (n : ℕ) (log : List M.Entry) (e : M.Entry) → Has log e → M.number e ≡ n → Has (own M n log) e
  own_has n log e h i = only_has (λ f. eqb (M.number f) n) log e h (eq-eqb (M.number e) n i)

  pub has_upto : (n : ℕ) (log : List M.Entry) (e : M.Entry) → Has (upto M n log) e → Has log e × (M.number e < n)
  has_upto zero log e h = absurd h
  has_upto (suc n) log e h = elim (has_cases (upto M n log) (own M n log) e h) [
    | inl a ↦ (let r = has_upto n log e a in (r.0, omega (arith, r.1)))
    | inr b ↦ (let r = has_own n log e b in (r.0, omega (arith, r.1)))
  ]

  pub own_same : (n : ℕ) (e : M.Entry) (log : List M.Entry) → M.number e ≡ n → own M n (e ∷ log) ≡ e ∷ own M n log
  own_same n e log i = rw (eq-eqb (M.number e) n i)

  pub own_other : (n : ℕ) (e : M.Entry) (log : List M.Entry) → M.number e ≢ n → own M n (e ∷ log) ≡ own M n log
  own_other n e log i = rw (ne_eqb (M.number e) n i)

  -- the entries of a number in a log with one entry more
  pub own_more : (n : ℕ) (e : M.Entry) (log : List M.Entry) → M.number e ≡ n →
      own M n (log ++ e ∷ []) ≡ own M n log ++ e ∷ []
  own_more n e log i = only_append (λ f. eqb (M.number f) n) log (e ∷ []) ∙ ap (λ l. own M n log ++ l) (own_same n e [] i)

  pub own_no_more : (n : ℕ) (e : M.Entry) (log : List M.Entry) → M.number e ≢ n → own M n (log ++ e ∷ []) ≡ own M n log
  own_no_more n e log ne = only_append (λ f. eqb (M.number f) n) log (e ∷ []) ∙ ap (λ l. own M n log ++ l)
      (own_other n e [] ne) ∙ append-nil (own M n log)

  upto_low : (n : ℕ) (e : M.Entry) (log : List M.Entry) → n ≤ M.number e → upto M n (e ∷ log) ≡ upto M n log
  upto_low zero e log h = refl
  upto_low (suc n) e log h =
      let ne : M.number e ≢ n = omega arith in
      let le : n ≤ M.number e = omega arith in
      ap (λ l. l ++ own M n (e ∷ log)) (upto_low n e log le) ∙ ap (λ l. upto M n log ++ l) (own_other n e log ne)

  upto_nil : (n : ℕ) → upto M n [] ≡ []
  upto_nil zero = refl
  upto_nil (suc n) = ap (λ l. l ++ []) (upto_nil n)

-- ---- what is staged

-- after an entry that was told what it gives, what is staged for a number is still its call's to write
pub good_next : (M : Model) (laws : Laws M) (calls : ℕ → M.Call) (s : ℕ) (e : M.Entry) (x : M.State) →
    M.Tells s (calls (M.number e)) e x → ((n : ℕ) → M.Good s (calls n) n x) → (n : ℕ) →
    M.Good s (calls n) n (M.effect e x)
good_next M laws calls s e x told good n = elim (eqb_tells (M.number e) n) [
  | inl i ↦ subst (λ m. M.Good s (calls m) m (M.effect e x)) i.1
      (laws.good_own s (calls (M.number e)) e x told (good (M.number e)))
  | inr i ↦ laws.good_other s (calls n) n e x i.1 (good n)
]

-- and so after a log
pub good_after : (M : Model) (laws : Laws M) (calls : ℕ → M.Call) (s : ℕ) (x : M.State) (log : List M.Entry) →
    ((n : ℕ) → M.Good s (calls n) n x) → FitAll M calls s x log → (n : ℕ) → M.Good s (calls n) n (replay M x log)
good_after M laws calls s x [] good fit n = good n
good_after M laws calls s x (e ∷ log) good fit n =
    good_after M laws calls s (M.effect e x) log (good_next M laws calls s e x fit.0.0 good) fit.1 n

-- ---- logs that fit

module _ (M : Model) (calls : ℕ → M.Call) (s : ℕ) where
  pub fit_append : (x : M.State) (es fs : List M.Entry) → FitAll M calls s x es → FitAll M calls s (replay M x es) fs →
      FitAll M calls s x (es ++ fs)
  fit_append x [] fs a b = b
  fit_append x (e ∷ es) fs a b = (a.0, fit_append (M.effect e x) es fs a.1 b)

  pub fit_front : (x : M.State) (es fs : List M.Entry) → FitAll M calls s x (es ++ fs) → FitAll M calls s x es
  fit_front x [] fs a = tt
  fit_front x (e ∷ es) fs a = (a.0, fit_front (M.effect e x) es fs a.1)

  pub fit_back : (x : M.State) (es fs : List M.Entry) → FitAll M calls s x (es ++ fs) →
      FitAll M calls s (replay M x es) fs
  fit_back x [] fs a = a
  fit_back x (e ∷ es) fs a = fit_back (M.effect e x) es fs a.1

  pub fit_tells : (x : M.State) (log : List M.Entry) → FitAll M calls s x log → TellAll M calls s x log
  fit_tells x [] a = tt
  fit_tells x (e ∷ log) a = (a.0.0, fit_tells (M.effect e x) log a.1)

  -- the entries of the numbers below n fit, if those of the numbers below a higher one do
  pub fit_upto : (x : M.State) (log : List M.Entry) (n m : ℕ) → n ≤ m → FitAll M calls s x (upto M m log) →
      FitAll M calls s x (upto M n log)
  fit_upto x log n zero le a = let e : 0 ≡ n = omega arith in subst (λ j. FitAll M calls s x (upto M j log)) e a
  fit_upto x log n (suc m) le a = elim (cases_lt m n) [
    | inl lt ↦ (let e : suc m ≡ n = omega arith in subst (λ j. FitAll M calls s x (upto M j log)) e a)
    | inr ge ↦ fit_upto x log n m ge (fit_front x (upto M m log) (own M m log) a)
  ]

-- ---- entries change places

module _ (M : Model) (laws : Laws M) (calls : ℕ → M.Call) (s : ℕ) where
  -- e and f are of two numbers whose calls don't conflict here
  abbrev pub Apart : M.Entry → M.Entry → Type 0
  Apart e f = (M.number e ≢ M.number f) × (clash M calls s (M.number e) (M.number f) ≡ false)

  -- an entry goes behind those that it doesn't meet
  sink : (x : M.State) (e : M.Entry) (es fs : List M.Entry) → ((f : M.Entry) → Has es f → Apart e f) →
      FitAll M calls s x (e ∷ es ++ fs) → Alike M calls s x (e ∷ es ++ fs) (es ++ e ∷ fs)
  sink x e [] fs h a = record { fits = a; same = refl }
  sink x e (f ∷ es) fs h a =
      let w = h f (inl refl) in
      let sw = laws.swap s (calls (M.number e)) (calls (M.number f)) e f x w.1 w.0 a.0 a.1.0 in
      let rest = sink (M.effect f x) e es fs (λ g n. h g (inr n)) (sw.second, subst (λ y. FitAll M calls s y (es ++ fs)) sw.same a.1.1) in
      record { fits = (sw.first, rest.fits); same = rest.same ∙ ap (λ y. replay M y (es ++ fs)) (sym sw.same) }

  -- a log fits without its first entry, if that meets none of those behind it
  erase : (x : M.State) (e : M.Entry) (es : List M.Entry) → ((f : M.Entry) → Has es f → Apart e f) →
      FitAll M calls s x (e ∷ es) → FitAll M calls s x es
  erase x e [] h a = tt
  erase x e (f ∷ es) h a =
      let w = h f (inl refl) in
      let sw = laws.swap s (calls (M.number e)) (calls (M.number f)) e f x w.1 w.0 a.0 a.1.0 in
      (sw.first, erase (M.effect f x) e es (λ g n. h g (inr n)) (sw.second, subst (λ y. FitAll M calls s y es) sw.same a.1.1))

  -- an entry in front of a sorted log goes to its place
  settle : (n : ℕ) (x : M.State) (e : M.Entry) (log : List M.Entry) →
      ((f : M.Entry) → Has log f → Before M calls s e f) → M.number e < n → FitAll M calls s x (e ∷ upto M n log) →
      Alike M calls s x (e ∷ upto M n log) (upto M n (e ∷ log))
  settle zero x e log b l a = absurd (omega (arith, l))
  settle (suc n) x e log b l a = elim (cases_lt (M.number e) n) [
    | inl lt ↦ higher lt (settle n x e log b lt)
    | inr ge ↦ here (omega arith)
  ]
    where
      higher : M.number e < n →
          (FitAll M calls s x (e ∷ upto M n log) → Alike M calls s x (e ∷ upto M n log) (upto M n (e ∷ log))) →
          Alike M calls s x (e ∷ upto M n log ++ own M n log) (upto M n (e ∷ log) ++ own M n (e ∷ log))
      higher lt go =
          let pre = go (fit_front M calls s x (e ∷ upto M n log) (own M n log) a) in
          let ne : M.number e ≢ n = omega arith in
          subst (λ l. Alike M calls s x (e ∷ upto M n log ++ own M n log) (upto M n (e ∷ log) ++ l)) (sym (own_other M n e log ne))
          record {
            fits = fit_append M calls s x (upto M n (e ∷ log)) (own M n log) pre.fits
                (subst (λ y. FitAll M calls s y (own M n log)) (sym pre.same) (fit_back M calls s x (e ∷ upto M n log) (own M n log) a));
            same = replay_append M x (upto M n (e ∷ log)) (own M n log) ∙ ap (λ y. replay M y (own M n log)) pre.same
                ∙ sym (replay_append M x (e ∷ upto M n log) (own M n log));
          }

      here : M.number e ≡ n →
          Alike M calls s x (e ∷ upto M n log ++ own M n log) (upto M n (e ∷ log) ++ own M n (e ∷ log))
      here i =
          let apart : (f : M.Entry) → Has (upto M n log) f → Apart e f = λ f h.
          let r = has_upto M n log f h in
          let lt : M.number f < M.number e = omega (arith, r.1) in
          (omega arith, (b f r.0).lower lt) in
          let low : n ≤ M.number e = omega arith in
          subst (λ l. Alike M calls s x (e ∷ upto M n log ++ own M n log) (l ++ own M n (e ∷ log))) (sym (upto_low M n e log low))
          (subst (λ l. Alike M calls s x (e ∷ upto M n log ++ own M n log) (upto M n log ++ l))
          (sym (own_same M n e log i)) (sink x e (upto M n log) (own M n log) apart a))

  -- a log in order does the same sorted by number, and each entry fits where it then stands
  pub sorted : (n : ℕ) (x : M.State) (log : List M.Entry) → IsInOrder M calls s log →
      ((e : M.Entry) → Has log e → M.number e < n) → FitAll M calls s x log → Alike M calls s x log (upto M n log)
  sorted n x [] c h a = subst (λ l. Alike M calls s x [] l) (sym (upto_nil M n)) record { fits = tt; same = refl }
  sorted n x (e ∷ log) c h a =
      let r = sorted n (M.effect e x) log c.1 (λ f k. h f (inr k)) a.1 in
      let t = settle n x e log c.0 (h e (inl refl)) (a.0, r.fits) in
      record { fits = t.fits; same = t.same ∙ r.same }

  -- if the number of e is left out, e meets no f of another number
  pub record Leaves (keep : ℕ → Bool) (e f : M.Entry) : Type 0 where
    pub by : keep (M.number e) ≡ false → M.number e ≢ M.number f → clash M calls s (M.number e) (M.number f) ≡ false

  -- a log fits without the numbers that are left out, if these meet no other number behind them
  pub kept_only : (keep : ℕ → Bool) (x : M.State) (log : List M.Entry) → Chain (Leaves keep) log →
      FitAll M calls s x log → FitAll M calls s x (only (λ e. keep (M.number e)) log)
  kept_only keep x [] c a = tt
  kept_only keep x (e ∷ log) c a = go (keep (M.number e)) refl (kept_only keep (M.effect e x) log c.1 a.1)
    where
      go : (b : Bool) → keep (M.number e) ≡ b → FitAll M calls s (M.effect e x) (only (λ f. keep (M.number f)) log) →
          FitAll M calls s x (cons_if b e (only (λ f. keep (M.number f)) log))
      go true i r = (a.0, r)
      go false i r = erase x e (only (λ f. keep (M.number f)) log)
          (λ f h.
          let k = has_only (λ g. keep (M.number g)) log f h in
          let ne : M.number e ≢ M.number f = λ j. false≢true (sym i ∙ ap keep j ∙ k.1) in
          (ne, (c.0 f k.0).by i ne))
          (a.0, r)
