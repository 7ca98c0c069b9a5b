-- What one shard keeps, step by step.
use Rattle.std.proofs.Common.{◌≡◌, ◌≢◌, ◌⊎◌, ℕ, ◌<◌, ◌≤◌, max, Bool, true, false, ◌&&◌, not, List, [], ◌∷◌, ◌++◌, Option, Some, None, inl, inr, refl, sym, ap, ◌∙◌, subst, arith, eqb, ltb}
use Rattle.std.proofs.lemmas.Bool.{false≢true, ltb-true, ltb-false}
use Rattle.std.specs.Prelude.{if◌then◌else◌}
use Rattle.df_order.specs.Lists.{Has, Chain}
use Rattle.df_order.specs.Model.{Model, Laws, conflict, clash, own, Fits, FitAll, Before, IsInOrder}
use Rattle.df_order.specs.Shards.{Place, Holder, Shard, Queued, insert, tail, is_free, empty, enqueue, leave, enter, MayRun, greatest, Kept}
use Rattle.df_order.proofs.Lists.{has_last, has_only, only_has, chain_only, chain_push}
use Rattle.df_order.proofs.Commute.{fit_append, replay_append, own_has, good_after}

-- ---- the queue

-- who is queued after an insert
pub has_insert : (p : Place) (qs : List Place) (r : Place) → Has (insert p qs) r → (p ≡ r) ⊎ Has qs r
has_insert p [] r (inl e) = inl e
has_insert p [] r (inr n) = absurd n
has_insert p (q ∷ qs) r h = go (ltb p.number q.number) (has_insert p qs r) h
  where
    go : (b : Bool) → (Has (insert p qs) r → (p ≡ r) ⊎ Has qs r) → Has (if b then p ∷ q ∷ qs else q ∷ insert p qs) r →
        (p ≡ r) ⊎ Has (q ∷ qs) r
    go true f (inl e) = inl e
    go true f (inr k) = inr k
    go false f (inl e) = inr (inl e)
    go false f (inr k) = elim (f k) [ inl e ↦ inl e | inr m ↦ inr (inr m) ]

pub insert_has_old : (p : Place) (qs : List Place) (r : Place) → Has qs r → Has (insert p qs) r
insert_has_old p [] r h = absurd h
insert_has_old p (q ∷ qs) r h = go (ltb p.number q.number) (insert_has_old p qs r) h
  where
    go : (b : Bool) → (Has qs r → Has (insert p qs) r) → Has (q ∷ qs) r →
        Has (if b then p ∷ q ∷ qs else q ∷ insert p qs) r
    go true f k = inr k
    go false f (inl e) = inl e
    go false f (inr k) = inr (f k)

pub insert_has_new : (p : Place) (qs : List Place) → Has (insert p qs) p
insert_has_new p [] = inl refl
insert_has_new p (q ∷ qs) = go (ltb p.number q.number) (insert_has_new p qs)
  where
    go : (b : Bool) → Has (insert p qs) p → Has (if b then p ∷ q ∷ qs else q ∷ insert p qs) p
    go true f = inl refl
    go false f = inr f

-- the queue stays sorted
insert_sorted : (p : Place) (qs : List Place) → ((q : Place) → Has qs q → q.number ≢ p.number) →
    Chain (λ a b. a.number < b.number) qs → Chain (λ a b. a.number < b.number) (insert p qs)
insert_sorted p [] ne c = (λ z n. absurd n, tt)
insert_sorted p (q ∷ qs) ne c = go (ltb p.number q.number) refl (insert_sorted p qs (λ z h. ne z (inr h)) c.1)
  where
    go : (b : Bool) → ltb p.number q.number ≡ b → Chain (λ a b. a.number < b.number) (insert p qs) →
        Chain (λ a b. a.number < b.number) (if b then p ∷ q ∷ qs else q ∷ insert p qs)
    go true e f = (λ y h. let lt = ltb-true p.number q.number e in after lt y h, c)
      where
        after : p.number < q.number → (y : Place) → Has (q ∷ qs) y → p.number < y.number
        after lt y (inl i) = let j : q.number ≡ y.number = ap (λ r. r.number) i in omega arith
        after lt y (inr k) = omega (arith, c.0 y k)
    go false e f = (
      λ y h. elim (has_insert p qs y h) [
        | inl i ↦ (let j : p.number ≡ y.number = ap (λ r. r.number) i in omega (arith, ltb-false p.number q.number e, ne q (inl refl)))
        | inr k ↦ c.0 y k
      ],
      f,
    )

-- ---- greatest numbers

at_most_tail : (qs : List Place) (q : Place) → Has qs q → q.number ≤ tail qs
at_most_tail [] q h = absurd h
at_most_tail (p ∷ qs) q (inl e) = let i : p.number ≡ q.number = ap (λ r. r.number) e in omega arith
at_most_tail (p ∷ qs) q (inr k) = omega (arith, at_most_tail qs q k)

pub at_most_greatest : (M : Model) (log : List M.Entry) (e : M.Entry) → Has log e → M.number e ≤ greatest M log
at_most_greatest M [] e h = absurd h
at_most_greatest M (f ∷ log) e (inl i) = let j : M.number f ≡ M.number e = ap M.number i in omega arith
at_most_greatest M (f ∷ log) e (inr h) = omega (arith, at_most_greatest M log e h)

greatest_push : (M : Model) (log : List M.Entry) (e : M.Entry) →
    greatest M (log ++ e ∷ []) ≡ max (greatest M log) (M.number e)
greatest_push M [] e = omega arith
greatest_push M (f ∷ log) e = omega (arith, greatest_push M log e)

-- ---- who conflicts

module _ (M : Model) where
  -- keys that are free meet no holder's
  free_says : (k : M.Keys) (hs : List (Holder M)) (h : Holder M) → is_free M k hs ≡ true → Has hs h →
      M.meets k h.keys ≡ false
  free_says k [] h e n = absurd n
  free_says k (g ∷ hs) h e n = go (M.meets k g.keys) refl (free_says k hs h) e n
    where
      go : (b : Bool) → M.meets k g.keys ≡ b → (is_free M k hs ≡ true → Has hs h → M.meets k h.keys ≡ false) →
          not b && is_free M k hs ≡ true → Has (g ∷ hs) h → M.meets k h.keys ≡ false
      go true i f j m = absurd (false≢true j)
      go false i f j (inl q) = ap (λ r. M.meets k r.keys) (sym q) ∙ i
      go false i f j (inr m) = f j m

  pub clash_sym : (laws : Laws M) (calls : ℕ → M.Call) (s n m : ℕ) → clash M calls s n m ≡ clash M calls s m n
  clash_sym laws calls s n m = go (M.footprint (calls n) s) (M.footprint (calls m) s)
    where
      go : (a b : Option M.Keys) → conflict M a b ≡ conflict M b a
      go None None = refl
      go None (Some l) = refl
      go (Some k) None = refl
      go (Some k) (Some l) = laws.meets_sym k l

-- ---- what follows from what is kept, and steps that need no law

module _ (M : Model) (calls : ℕ → M.Call) (s : ℕ) (start : M.State) where
  pub ran_most : (x : Shard M) → Kept M calls s start x → (e : M.Entry) → Has x.log e → M.number e ≤ x.ran
  ran_most x kept e h = omega (arith, at_most_greatest M x.log e h, kept.ran_is)

  clash_is : (n m : ℕ) (k l : M.Keys) → M.footprint (calls n) s ≡ Some k → M.footprint (calls m) s ≡ Some l →
      clash M calls s n m ≡ M.meets k l
  clash_is n m k l e f = ap (λ a. conflict M a (M.footprint (calls m) s)) e ∙ ap (λ b. conflict M (Some k) b) f

  -- a call whose keys are free conflicts with none that waits
  pub free_clash : (x : Shard M) (n : ℕ) (k : M.Keys) (q : Place) → Kept M calls s start x →
      M.footprint (calls n) s ≡ Some k → is_free M k x.holders ≡ true → Has x.queue q →
      clash M calls s n q.number ≡ false
  free_clash x n k q kept fp free h =
      let w = kept.held q h in
      let v = kept.holding w.0 w.1 in
      subst (λ m. clash M calls s n m ≡ false) w.2 (clash_is n w.0.number k w.0.keys fp v.1 ∙ free_says M k x.holders w.0 free w.1)

  -- a waiting call that may run conflicts with no lower one that waits
  pub may_run_low : (x : Shard M) (n : ℕ) → Kept M calls s start x → MayRun x.queue n → (p : Place) → Has x.queue p →
      p.number < n → clash M calls s p.number n ≡ false
  may_run_low x n kept may p h lt = elim may.3 [
    | inl granted ↦ go (clash M calls s p.number n) refl granted
    | inr head ↦ absurd (omega (arith, head p h))
  ]
    where
      go : (b : Bool) → clash M calls s p.number n ≡ b → may.0.granted ≡ true → b ≡ false
      go false i g = refl
      go true i g = absurd
          (false≢true (sym (kept.grants p may.0 h may.1 (omega (arith, may.2)) (ap (clash M calls s p.number) may.2 ∙ i)) ∙ g))

  -- a call leaves
  pub kept_leave : (x : Shard M) (n : ℕ) → Kept M calls s start x → Kept M calls s start (leave M n x)
  kept_leave x n kept = record {
    sorted = chain_only (λ a b. a.number < b.number) (λ p. not (eqb p.number n)) x.queue kept.sorted;
    held = λ p h.
        let o = has_only (λ q. not (eqb q.number n)) x.queue p h in
        let w = kept.held p o.0 in
        (w.0, only_has (λ g. not (eqb g.number n)) x.holders w.0 w.1 (ap (λ m. not (eqb m n)) w.2 ∙ o.1), w.2);
    holding = λ h m.
        let o = has_only (λ g. not (eqb g.number n)) x.holders h m in
        let v = kept.holding h o.0 in
        ((v.0.0, only_has (λ q. not (eqb q.number n)) x.queue v.0.0 v.0.1 (ap (λ m. not (eqb m n)) v.0.2 ∙ o.1), v.0.2), v.1);
    grants = λ p q hp hq lt c. kept.grants p q (has_only _ x.queue p hp).0 (has_only _ x.queue q hq).0 lt c;
    ahead = λ p e hp he lt. kept.ahead p e (has_only _ x.queue p hp).0 he lt;
    ran_is = kept.ran_is;
    in_order = kept.in_order;
    replayed = kept.replayed;
    fitting = kept.fitting;
  }

  -- a hop runs that fits, conflicts with no lower call that waits, and may stand behind each entry
  pub kept_enter : (x : Shard M) (e : M.Entry) → Kept M calls s start x → Fits M s (calls (M.number e)) e x.state →
      ((p : Place) → Has x.queue p → p.number < M.number e → clash M calls s p.number (M.number e) ≡ false) →
      ((f : M.Entry) → Has x.log f → Before M calls s f e) → Kept M calls s start (enter M e x)
  kept_enter x e kept fits low order = record {
    sorted = kept.sorted;
    held = kept.held;
    holding = kept.holding;
    grants = kept.grants;
    ahead = λ p f hp hf lt. elim (has_last x.log e f hf) [
      | inl h ↦ kept.ahead p f hp h lt
      | inr i ↦
          (let j : M.number e ≡ M.number f = ap M.number i in subst (λ g. clash M calls s p.number (M.number g) ≡ false) i (low p hp (omega arith)))
    ];
    ran_is = ap (λ r. max r (M.number e)) kept.ran_is ∙ sym (greatest_push M x.log e);
    in_order = chain_push (Before M calls s) x.log e kept.in_order order;
    replayed = ap (M.effect e) kept.replayed ∙ sym (replay_append M start x.log (e ∷ []));
    fitting = fit_append M calls s start x.log (e ∷ []) kept.fitting (subst (Fits M s (calls (M.number e)) e) kept.replayed fits, tt);
  }

-- ---- steps of a call that comes, or has its turn

module _ (M : Model) (laws : Laws M) (calls : ℕ → M.Call) (s : ℕ) (start : M.State) where
  -- who waits conflicts with no higher number that ran
  pub queued_order : (x : Shard M) (n : ℕ) → Kept M calls s start x → Queued x.queue n → (f : M.Entry) → Has x.log f →
      n < M.number f → clash M calls s (M.number f) n ≡ false
  queued_order x n kept q f h lt = clash_sym M laws calls s (M.number f) n
      ∙ subst (λ m. clash M calls s m (M.number f) ≡ false) q.2 (kept.ahead q.0 f q.1 h (omega (arith, q.2)))

  -- a call comes to wait that is above all that ran, and is free or above all that wait
  pub kept_enqueue : (x : Shard M) (n : ℕ) (k : M.Keys) → Kept M calls s start x → M.footprint (calls n) s ≡ Some k →
      ((p : Place) → Has x.queue p → p.number ≢ n) → x.ran < n → (is_free M k x.holders ≡ true) ⊎ (tail x.queue ≤ n) →
      Kept M calls s start (enqueue M n k x)
  kept_enqueue x n k kept fp new above right = record {
    sorted = insert_sorted place x.queue new kept.sorted;
    held = λ p h. elim (has_insert place x.queue p h) [
      | inl e ↦ (record { number = n; keys = k }, inl refl, ap (λ r. r.number) e)
      | inr m ↦ (let w = kept.held p m in (w.0, inr w.1, w.2))
    ];
    holding = λ h m. elim m [
      | inl e ↦
          ((place, insert_has_new place x.queue, ap (λ r. r.number) e), subst (λ g. M.footprint (calls g.number) s ≡ Some g.keys) e fp)
      | inr i ↦ (let v = kept.holding h i in ((v.0.0, insert_has_old place x.queue v.0.0 v.0.1, v.0.2), v.1))
    ];
    grants = λ p q hp hq lt c. grants p q (has_insert place x.queue p hp) (has_insert place x.queue q hq) lt c;
    ahead = λ p e hp he lt. elim (has_insert place x.queue p hp) [
      | inl i ↦ (let j : n ≡ p.number = ap (λ r. r.number) i in absurd (omega (arith, ran_most M calls s start x kept e he)))
      | inr m ↦ kept.ahead p e m he lt
    ];
    ran_is = kept.ran_is;
    in_order = kept.in_order;
    replayed = kept.replayed;
    fitting = kept.fitting;
  }
    where
      place : Place
      place = record { number = n; granted = is_free M k x.holders }

      waits : (p : Place) → Has x.queue p → clash M calls s p.number n ≡ true → is_free M k x.holders ≡ false
      waits p mp c = go (is_free M k x.holders) refl
        where
          go : (b : Bool) → is_free M k x.holders ≡ b → b ≡ false
          go false i = refl
          go true i = absurd
              (false≢true (sym (clash_sym M laws calls s p.number n ∙ free_clash M calls s start x n k p kept fp i mp) ∙ c))

      grants : (p q : Place) → (place ≡ p) ⊎ Has x.queue p → (place ≡ q) ⊎ Has x.queue q → p.number < q.number →
          clash M calls s p.number q.number ≡ true → q.granted ≡ false
      grants p q (inl i) (inl j) lt c =
          let a : n ≡ p.number = ap (λ r. r.number) i in
          let b : n ≡ q.number = ap (λ r. r.number) j in
          absurd (omega arith)
      grants p q (inr mp) (inl j) lt c = ap (λ r. r.granted) (sym j) ∙ waits p mp (ap (λ r. clash M calls s p.number r.number) j ∙ c)
      grants p q (inl i) (inr mq) lt c = absurd (elim right [
        | inl free ↦ false≢true
            (sym (free_clash M calls s start x n k q kept fp free mq) ∙ ap (λ r. clash M calls s r.number q.number) i ∙ c)
        | inr top ↦ (let a : n ≡ p.number = ap (λ r. r.number) i in omega (arith, at_most_tail x.queue q mq))
      ])
      grants p q (inr mp) (inr mq) lt c = kept.grants p q mp mq lt c

  -- the next hop of a waiting call runs in its turn
  pub kept_hop : (x : Shard M) (n : ℕ) (e : M.Entry) → Kept M calls s start x → MayRun x.queue n → M.number e ≡ n →
      Fits M s (calls n) e x.state → ((f : M.Entry) → Has (own M n x.log) f → M.hop f < M.hop e) →
      Kept M calls s start (enter M e x)
  kept_hop x n e kept turn i fits rises = kept_enter M calls s start x e kept (subst (λ m. Fits M s (calls m) e x.state) (sym i) fits)
      (λ p h lt. subst (λ m. clash M calls s p.number m ≡ false) (sym i) (may_run_low M calls s start x n kept turn p h (omega (arith, i))))
      (λ f h. record {
        rises = λ j. rises f (own_has M n x.log f h (j ∙ i));
        lower = λ lt. subst (λ m. clash M calls s (M.number f) m ≡ false) (sym i)
            (queued_order x n kept (turn.0, turn.1, turn.2) f h (omega (arith, i)));
      })

  -- a call above all that ran, whose keys are free, runs at once
  pub kept_at_once : (x : Shard M) (n : ℕ) (k : M.Keys) (e : M.Entry) → Kept M calls s start x →
      M.footprint (calls n) s ≡ Some k → is_free M k x.holders ≡ true → x.ran < n → M.number e ≡ n →
      Fits M s (calls n) e x.state → Kept M calls s start (enter M e x)
  kept_at_once x n k e kept fp free above i fits = kept_enter M calls s start x e kept
      (subst (λ m. Fits M s (calls m) e x.state) (sym i) fits)
      (λ p h lt. subst (λ m. clash M calls s p.number m ≡ false) (sym i)
      (clash_sym M laws calls s p.number n ∙ free_clash M calls s start x n k p kept fp free h))
      (λ f h. record {
        rises = λ j. absurd (omega (arith, ran_most M calls s start x kept f h, i));
        lower = λ lt. absurd (omega (arith, ran_most M calls s start x kept f h, i));
      })

-- ---- what is staged

-- what is staged for a number is its call's to write, as it was at first
pub kept_good : (M : Model) → Laws M → (calls : ℕ → M.Call) (s : ℕ) (start : M.State) (x : Shard M) →
    Kept M calls s start x → ((n : ℕ) → M.Good s (calls n) n start) → (n : ℕ) → M.Good s (calls n) n x.state
kept_good M laws calls s start x kept clean n =
    subst (M.Good s (calls n) n) (sym kept.replayed) (good_after M laws calls s start x.log clean kept.fitting n)

-- ---- calls that become known

-- what is kept hangs on the calls of the numbers that wait or ran here, and on no others
module _ (M : Model) (calls calls' : ℕ → M.Call) (s : ℕ) where
  fit_calls : (x : M.State) (log : List M.Entry) →
      ((e : M.Entry) → Has log e → calls (M.number e) ≡ calls' (M.number e)) → FitAll M calls s x log →
      FitAll M calls' s x log
  fit_calls x [] same a = tt
  fit_calls x (e ∷ log) same a =
      (subst (λ c. Fits M s c e x) (same e (inl refl)) a.0, fit_calls (M.effect e x) log (λ f h. same f (inr h)) a.1)

  clash_calls : (n m : ℕ) → calls n ≡ calls' n → calls m ≡ calls' m → clash M calls s n m ≡ clash M calls' s n m
  clash_calls n m a b = λ i. conflict M (M.footprint (a i) s) (M.footprint (b i) s)

  order_calls : (log : List M.Entry) → ((e : M.Entry) → Has log e → calls (M.number e) ≡ calls' (M.number e)) →
      IsInOrder M calls s log → IsInOrder M calls' s log
  order_calls [] same c = tt
  order_calls (e ∷ log) same c = (
    λ f h. record
        { rises = (c.0 f h).rises; lower = λ lt. sym (clash_calls (M.number e) (M.number f) (same e (inl refl)) (same f (inr h))) ∙ (c.0 f h).lower lt },
    order_calls log (λ f h. same f (inr h)) c.1,
  )

  pub kept_calls : (start : M.State) (x : Shard M) → ((p : Place) → Has x.queue p → calls p.number ≡ calls' p.number) →
      ((e : M.Entry) → Has x.log e → calls (M.number e) ≡ calls' (M.number e)) → Kept M calls s start x →
      Kept M calls' s start x
  kept_calls start x qs es kept = record {
    sorted = kept.sorted;
    held = kept.held;
    holding = λ h m.
        let v = kept.holding h m in
        (v.0, subst (λ c. M.footprint c s ≡ Some h.keys) (subst (λ k. calls k ≡ calls' k) v.0.2 (qs v.0.0 v.0.1)) v.1);
    grants = λ p q hp hq lt c. kept.grants p q hp hq lt (clash_calls p.number q.number (qs p hp) (qs q hq) ∙ c);
    ahead = λ p e hp he lt. sym (clash_calls p.number (M.number e) (qs p hp) (es e he)) ∙ kept.ahead p e hp he lt;
    ran_is = kept.ran_is;
    in_order = order_calls x.log es kept.in_order;
    replayed = kept.replayed;
    fitting = fit_calls start x.log es kept.fitting;
  }

-- ---- a shard at first

-- nobody waits and nothing ran
pub kept_first : (M : Model) (calls : ℕ → M.Call) (s : ℕ) (start : M.State) → Kept M calls s start (empty M start)
kept_first M calls s start = record {
  sorted = tt;
  held = λ p h. absurd h;
  holding = λ h m. absurd m;
  grants = λ p q h. absurd h;
  ahead = λ p e h. absurd h;
  ran_is = refl;
  in_order = tt;
  replayed = refl;
  fitting = tt;
}
