-- What is of one sender in joined lists.
use Rattle.std.proofs.Common.{◌≡◌, ℕ, ◌<◌, ◌≤◌, Bool, cond, true, false, List, [], ◌∷◌, ◌++◌, filter, sym, refl, ap, ◌∙◌, subst, ◌⊎◌, inl, inr, ⊎_elim, arith}
use Rattle.std.proofs.lemmas.Bool.{cases_lt, lt-ltb, le-ltb}
use Rattle.std.proofs.lemmas.List.Elements.{filter-append}
use Rattle.df_shardqueue.specs.Placed.{Each, Rises, Climbs, items_of, put, merged}
use Rattle.df_shardqueue.specs.Laws.{of, JoinKeeps, JoinsAlone, IsFront}
use Rattle.df_shardqueue.proofs.PlaceLemmas.{each_of, merged_climbs}

either : (b : Bool) → (b ≡ true) ⊎ (b ≡ false)
either true = inl refl
either false = inr refl

module _ {M : Type 0} where
  abbrev Above : ℕ × M → List (ℕ × M) → Type 0
  Above e = Each (λ (other : ℕ × M). e.0 < other.0)

  pub climbs_of : (es : List (ℕ × M)) → Rises es → Climbs es
  climbs_of [] up = tt
  climbs_of (e ∷ es) up = (each_of (λ (o : ℕ × M). e.0 < o.0) (λ (o : ℕ × M). e.0 ≤ o.0) (λ o h. omega (arith, h)) es up.0, climbs_of es up.1)

  -- where it stands before a list that is all above it
  put_first : (e : ℕ × M) (es : List (ℕ × M)) → Above e es → put e es ≡ e ∷ es
  put_first e [] low = refl
  put_first e (o ∷ es) low = ap (λ b. cond b (e ∷ o ∷ es) (o ∷ put e es)) (lt-ltb e.0 o.0 low.0)

  put_later : (e o : ℕ × M) (es : List (ℕ × M)) → o.0 ≤ e.0 → put e (o ∷ es) ≡ o ∷ put e es
  put_later e o es high = ap (λ b. cond b (e ∷ o ∷ es) (o ∷ put e es)) (le-ltb e.0 o.0 high)

  pub joins_alone : JoinsAlone M
  joins_alone [] up = refl
  joins_alone (x ∷ xs) up = ap (put x) (joins_alone xs up.1) ∙ put_first x xs up.0

  put_before : (e o : ℕ × M) (es : List (ℕ × M)) → e.0 < o.0 → put e (o ∷ es) ≡ e ∷ o ∷ es
  put_before e o es low = ap (λ b. cond b (e ∷ o ∷ es) (o ∷ put e es)) (lt-ltb e.0 o.0 low)

  module _ (from : M → Bool) where
    of_mine : (e : ℕ × M) (es : List (ℕ × M)) → from e.1 ≡ true → of from (e ∷ es) ≡ e ∷ of from es
    of_mine e es mine = ap (λ b. cond b (e ∷ of from es) (of from es)) mine

    of_other : (e : ℕ × M) (es : List (ℕ × M)) → from e.1 ≡ false → of from (e ∷ es) ≡ of from es
    of_other e es other = ap (λ b. cond b (e ∷ of from es) (of from es)) other

    of_each : (P : ℕ × M → Type 0) (es : List (ℕ × M)) → Each P es → Each P (of from es)
    of_each P [] all = tt
    of_each P (e ∷ es) all = ⊎_elim (λ (mine : from e.1 ≡ true). subst (Each P) (sym (of_mine e es mine)) (all.0, of_each P es all.1))
        (λ (other : from e.1 ≡ false). subst (Each P) (sym (of_other e es other)) (of_each P es all.1)) (either (from e.1))

    put_mine : (e : ℕ × M) (es : List (ℕ × M)) → from e.1 ≡ true → Climbs es → of from (put e es) ≡ put e (of from es)
    put_mine e [] mine up = of_mine e [] mine
    put_mine e (o ∷ es) mine up = ⊎_elim
        (λ (low : e.0 < o.0).
        let above : Above e (o ∷ es) = (low, each_of (λ (x : ℕ × M). o.0 ≤ x.0) (λ (x : ℕ × M). e.0 < x.0) (λ x h. omega (arith, h, low)) es up.0) in
        ap (of from) (put_before e o es low) ∙ of_mine e (o ∷ es) mine ∙ sym (put_first e (of from (o ∷ es)) (of_each (λ (x : ℕ × M). e.0 < x.0) (o ∷ es) above)))
        (λ (high : o.0 ≤ e.0).
        let rest = put_mine e es mine up.1 in
        ap (of from) (put_later e o es high)
        ∙ ⊎_elim (λ (his : from o.1 ≡ true). of_mine o (put e es) his ∙ ap (λ (l : List (ℕ × M)). o ∷ l) rest ∙ sym (put_later e o (of from es) high) ∙ ap (put e) (sym (of_mine o es his)))
        (λ (other : from o.1 ≡ false). of_other o (put e es) other ∙ rest ∙ ap (put e) (sym (of_other o es other))) (either (from o.1)))
        (cases_lt e.0 o.0)

    put_other : (e : ℕ × M) (es : List (ℕ × M)) → from e.1 ≡ false → of from (put e es) ≡ of from es
    put_other e [] other = of_other e [] other
    put_other e (o ∷ es) other = ⊎_elim (λ (low : e.0 < o.0). ap (of from) (put_before e o es low) ∙ of_other e (o ∷ es) other)
        (λ (high : o.0 ≤ e.0). ap (of from) (put_later e o es high) ∙ ap (λ (l : List (ℕ × M)). cond (from o.1) (o ∷ l) l) (put_other e es other)) (cases_lt e.0 o.0)

    keeps : (xs es : List (ℕ × M)) → Climbs es → of from (merged xs es) ≡ merged (of from xs) (of from es)
    keeps [] es up = refl
    keeps (x ∷ xs) es up = ⊎_elim
        (λ (mine : from x.1 ≡ true). put_mine x (merged xs es) mine (merged_climbs xs es up) ∙ ap (put x) (keeps xs es up) ∙ ap (λ (l : List (ℕ × M)). merged l (of from es)) (sym (of_mine x xs mine)))
        (λ (other : from x.1 ≡ false). put_other x (merged xs es) other ∙ keeps xs es up ∙ ap (λ (l : List (ℕ × M)). merged l (of from es)) (sym (of_other x xs other)))
        (either (from x.1))

    items_are : (es : List (ℕ × M)) → items_of (of from es) ≡ filter from (items_of es)
    items_are [] = refl
    items_are (e ∷ es) = ⊎_elim
        (λ (mine : from e.1 ≡ true). ap items_of (of_mine e es mine) ∙ ap (λ l. e.1 ∷ l) (items_are es) ∙ sym (ap (λ b. cond b (e.1 ∷ filter from (items_of es)) (filter from (items_of es))) mine))
        (λ (other : from e.1 ≡ false). ap items_of (of_other e es other) ∙ items_are es ∙ sym (ap (λ b. cond b (e.1 ∷ filter from (items_of es)) (filter from (items_of es))) other))
        (either (from e.1))

  pub join_keeps : JoinKeeps M
  join_keeps from xs es up = keeps from xs es (climbs_of es up)

  pub is_front : IsFront M
  is_front from sent taken items all = items_are from sent ∙ ap (filter from) all ∙ filter-append from (items_of taken) items ∙ ap (λ l. l ++ filter from items) (sym (items_are from taken))
