-- The counters keep the laws.
use Rattle.std.proofs.Common.{◌≡◌, ◌≢◌, ℕ, ◌+◌, true, false, List, [], ◌∷◌, ◌++◌, Some, None, inl, inr, refl, sym, ap, ◌∙◌, subst, arith, eqb}
use Rattle.std.proofs.lemmas.Bool.{false≢true, eq-eqb, ne_eqb, and_parts}
use Rattle.std.proofs.lemmas.Bool.Decides.{eqb_tells}
use Rattle.std.specs.Prelude.{if◌then◌else◌, is_none}
use Rattle.df_order.specs.Lists.{Has}
use Rattle.df_order.specs.Puts.{put}
use Rattle.df_order.specs.Model.{Laws, Swapped, conflict, names_none, replay, FitAll}
use Rattle.df_order.specs.Counters.{Add, Added, place, counters}
use Rattle.df_order.proofs.Puts.{put_case, put_same, put_other}

abbrev Full : {X : Type 0} → List X → Type 0
Full [] = ⊥
Full (x ∷ xs) = Unit {0}

-- what a call asks for
asks : (c : Add) (s : ℕ) → place c.key ≡ s → counters.footprint c s ≡ Some c.key
asks c s e = ap (λ b. if b then Some c.key else None) (eq-eqb (place c.key) s e)

asks_not : (c : Add) (s : ℕ) → place c.key ≢ s → counters.footprint c s ≡ None
asks_not c s e = ap (λ b. if b then Some c.key else None) (ne_eqb (place c.key) s e)

pub asked : (c : Add) (s : ℕ) → counters.footprint c s ≢ None → place c.key ≡ s
asked c s h = elim (eqb_tells (place c.key) s) [ inl t ↦ t.1 | inr t ↦ absurd (h (asks_not c s t.1)) ]

is_asked : (c : Add) (s : ℕ) → place c.key ≡ s → counters.footprint c s ≢ None
is_asked c s e n = false≢true (ap is_none (sym (asks c s e) ∙ n))

-- an Add names a shard
names_one : (c : Add) → names_none counters c 2 ≡ true → ⊥
names_one c h =
    let a = and_parts (is_none (counters.footprint c 1)) (names_none counters c 1) h in
    let b = and_parts (is_none (counters.footprint c 0)) true a.1 in
    elim (eqb_tells (place c.key) 0) [
      | inl t ↦ false≢true (sym (ap is_none (asks c 0 t.1)) ∙ b.0)
      | inr t ↦ (let one : place c.key ≡ 1 = omega arith in false≢true (sym (ap is_none (asks c 1 one)) ∙ a.0))
    ]

-- two keys are counted one after the other in either order
put_twice : (j k a b : ℕ) (x : ℕ → ℕ) → j ≢ k → put k b (put j a x) ≡ put j a (put k b x)
put_twice j k a b x ne = λ i l. at l i
  where
    at : (l : ℕ) → put k b (put j a x) l ≡ put j a (put k b x) l
    at l = put_case (λ y. y ≡ put j a (put k b x) l) k l b (put j a x)
        (λ e. sym (put_other j l a (put k b x) (λ i. ne (sym i ∙ e)) ∙ put_same k l b x e))
        (λ e. put_case (λ y. y ≡ put j a (put k b x) l) j l a x
        (λ i. sym (put_same j l a (put k b x) i))
        (λ i. sym (put_other j l a (put k b x) i ∙ put_other k l b x e)))

-- the keys of two calls that don't conflict on a shard of both differ
apart : (s : ℕ) (c d : Add) → conflict counters (counters.footprint c s) (counters.footprint d s) ≡ false → place c.key ≡ s → place d.key ≡ s → c.key ≢ d.key
apart s c d free e f i =
    false≢true
    (sym (sym (ap (λ o. conflict counters o (counters.footprint d s)) (asks c s e)
    ∙ ap (conflict counters (Some c.key)) (asks d s f)) ∙ free) ∙ eq-eqb c.key d.key i)

swap : (s : ℕ) (c d : Add) (e f : Added) (x : ℕ → ℕ) → conflict counters (counters.footprint c s) (counters.footprint d s) ≡ false →
    counters.Tells s c e x → counters.Tells s d f (counters.effect e x) → Swapped counters s c d e f x
swap s c d e f x free a b =
    let ne : c.key ≢ d.key = apart s c d free a.0.placed b.0.placed in
    let here : e.add.key ≢ d.key = λ i. ne (sym (ap (λ r. r.key) a.0.same) ∙ i) in
    let there : f.add.key ≢ c.key = λ i. ne (sym i ∙ ap (λ r. r.key) b.0.same) in
    let both : e.add.key ≢ f.add.key = λ i. here (i ∙ ap (λ r. r.key) b.0.same) in
    record {
      first = ((b.0, b.1 ∙ ap (λ n. n + d.amount) (put_other e.add.key d.key (x e.add.key + e.add.amount) x (λ i. here (sym i)))), tt);
      second =
          ((a.0, a.1 ∙ ap (λ n. n + c.amount) (sym (put_other f.add.key c.key (x f.add.key + f.add.amount) x (λ i. there (sym i))))), tt);
      same =
          ap (λ n. put f.add.key (n + f.add.amount) (counters.effect e x))
          (put_other e.add.key f.add.key (x e.add.key + e.add.amount) x (λ i. both (sym i)))
          ∙ put_twice e.add.key f.add.key (x e.add.key + e.add.amount) (x f.add.key + f.add.amount) x both
          ∙ ap (λ n. put e.add.key (n + e.add.amount) (counters.effect f x))
          (sym (put_other f.add.key e.add.key (x f.add.key + f.add.amount) x both));
    }

-- one Add on its shard is one thread's
composes : (calls : ℕ → Add) (n : ℕ) (es : ℕ → List Added) (xs : ℕ → ℕ → ℕ) (r : ℕ) → counters.Gives (calls n) es r →
    ((s : ℕ) → FitAll counters calls s (xs s) (es s)) → ((s : ℕ) (e : Added) → Has (es s) e → e.number ≡ n) →
    counters.Allowed (calls n) tt r (counters.joined xs) (counters.joined (λ s. replay counters (xs s) (es s)))
composes calls n es xs r gives fit own = (sym gives.3 ∙ tells.1, λ i k. at k i)
  where
    tells : counters.Tells (place (calls n).key) (calls n) gives.0 (xs (place (calls n).key))
    tells =
        let one = subst (FitAll counters calls (place (calls n).key) (xs (place (calls n).key))) gives.1 (fit (place (calls n).key)) in
        let mine = own (place (calls n).key) gives.0 (subst (λ l. Has l gives.0) (sym gives.1) (inl refl)) in
        subst (λ m. counters.Tells (place (calls n).key) (calls m) gives.0 (xs (place (calls n).key))) mine one.0.0

    at : (k : ℕ) →
        replay counters (xs (place k)) (es (place k)) k ≡ put (calls n).key (xs (place (calls n).key) (calls n).key + (calls n).amount) (λ j. xs (place j) j) k
    at k = elim (eqb_tells (place k) (place (calls n).key)) [
      | inl t ↦
          ap (λ u. replay counters (xs u) (es u) k) t.1
          ∙ ap (λ l. replay counters (xs (place (calls n).key)) l k) gives.1
          ∙ ap (λ a. put a.key (xs (place (calls n).key) a.key + a.amount) (xs (place (calls n).key)) k) tells.0.same
          ∙ ap (λ u. if eqb k (calls n).key then xs (place (calls n).key) (calls n).key + (calls n).amount else xs u k) (sym t.1)
      | inr t ↦
          ap (λ l. replay counters (xs (place k)) l k) (gives.2 (place k) t.1)
          ∙ sym
          (put_other (calls n).key k (xs (place (calls n).key) (calls n).key + (calls n).amount) (λ j. xs (place j) j) (λ i. t.1 (ap place i)))
    ]

pub counters_keep : Laws counters
counters_keep = record {
  meets_sym = λ k l. elim (eqb_tells k l) [
    | inl t ↦ t.0 ∙ sym (eq-eqb l k (sym t.1))
    | inr t ↦ t.0 ∙ sym (ne_eqb l k (λ i. t.1 (sym i)))
  ];
  swap = λ s c d e f x free ne a b. swap s c d e f x free a.0 b.0;
  next_named = λ c es s e h. is_asked c s h.0.placed;
  next_rises = λ c es s e f h m. absurd (subst (λ l. Has l f) (h.1 s) m);
  composes = λ calls n es xs r gives fit own rises. composes calls n es xs r gives fit own;
  within = λ c s le. asks_not c s (omega arith);
  none_whole = λ c es h nil. absurd (names_one c h);
  whole_some = λ c es w nil. absurd (subst Full (sym w.1.1 ∙ nil (place c.key)) tt);
  quick_one = λ c s t q h k. sym (asked c t k) ∙ asked c s h;
  quick_whole = λ c es es' s e q next here there. (
    e.count,
    (
      e,
      subst (λ u. es' u ≡ e ∷ []) (sym next.0.placed) (here ∙ ap (λ l. l ++ e ∷ []) (next.1 s)),
      (λ t ne. there t (λ i. ne (i ∙ sym next.0.placed)) ∙ next.1 t),
      refl,
    ),
  );
  good_own = λ s c e x t g. tt;
  good_other = λ s c n e x ne g. tt;
  slot_other = λ n e x ne. refl;
  slot_own = λ n e x y i q. refl;
  whole_bare = λ c es n s x w h b. refl;
}
