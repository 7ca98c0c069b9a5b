-- What a place tells of the map: a change there is the map's own change.
use Rattle.std.proofs.Common.{◌≡◌, ℕ, zero, suc, ◌<◌, ◌≤◌, Bool, true, false, cond, List, [], ◌∷◌, length, get_or, set, refl, sym, ap, subst, ◌∙◌, arith}
use Rattle.std.specs.Prelude.{Option, Some, None, Result, Ok, Err, MatchResult, T, not}
use Rattle.std.specs.List.{insert, remove}
use Rattle.std.specs.Ordering.{eq_by_cmp}
use Rattle.std.specs.Cmp.{eq_by_cmp_equiv}
use Rattle.std.specs.Cmp.Lexicographic.{nat_list_cmp_total}
use Rattle.std.specs.FinMap.{FinMap, put, find, is_sorted}
use Rattle.std.specs.FinMap as map
use Rattle.std.specs.FinMap.Entries.{where_key, is_sorted-where_key, find-where_key}
use Rattle.df_model.specs.Values.{Bytes}
use Rattle.df_colls.specs.Roomy.{order}
use Rattle.df_colls.specs.Places.{AllAbove, IsAt, GoesTo, made, Makes, Present, Absent}
use Rattle.df_colls.proofs.OrderLaws.{second, same_key, above_first}

turned : {X : Type 0} (b : Bool) (x y : Option X) → cond (not b) x y ≡ cond b y x
turned true x y = refl
turned false x y = refl

module _ {X : Type 0} where
  -- ---- lists of entries and their maps

  pub made_entries : (es : List (Bytes × X)) → T (is_sorted order es) → map.entries (made es) ≡ es
  made_entries es s = map.entries-from_sorted order es s

  -- a list of entries that a map has makes this map
  pub makes : (es : List (Bytes × X)) (m : FinMap order X) → map.entries m ≡ es → Makes es m
  makes es m e =
      let s = subst (λ xs. T (is_sorted order xs)) e (map.entries_sorted m) in
      record { sorted = s; same = map.same_entries_map _ _ (made_entries es s ∙ sym e) }

  pub made_len : (es : List (Bytes × X)) → T (is_sorted order es) → map.len (made es) ≡ length es
  made_len es s = map.len-entries (made es) ∙ ap length (made_entries es s)

  pub made_empty : made {X = X} [] ≡ map.empty
  made_empty = map.empty_of_len (made []) (made_len [] tt)

  put_makes : (k : Bytes) (v : X) (es fs : List (Bytes × X)) → T (is_sorted order es) → put order k v es ≡ fs → Makes fs (map.insert (made es) k v)
  put_makes k v es fs s e = makes fs _ (map.entries-insert nat_list_cmp_total (made es) k v ∙ ap (put order k v) (made_entries es s) ∙ e)

  abbrev unless : Bytes → List (Bytes × X) → List (Bytes × X)
  unless k = where_key order (λ x. not (eq_by_cmp order k x))

  -- the entries whose keys pass a test make the map that answers so
  where_is : (p : Bytes → Bool) (es fs : List (Bytes × X)) (m : FinMap order X) → T (is_sorted order es) → ((q : Bytes) → map.get m q ≡ cond (p q) (map.get (made es) q) None) → where_key order p es ≡ fs → Makes fs m
  where_is p es fs m s gets e =
      let s' = subst (λ xs. T (is_sorted order xs)) e (is_sorted-where_key order p es s) in
      record {
        sorted = s';
        same = sym (map.same_map nat_list_cmp_total same_key _ _ (λ q.
            gets q
            ∙ ap (λ x. cond (p q) x None) (map.get-from_sorted order es q s)
            ∙ sym (find-where_key order p q (λ x t. ap p (sym (same_key q x t))) es)
            ∙ ap (find order q) e
            ∙ sym (map.get-from_sorted order fs q s')));
      }

  unless_is : (k : Bytes) (es fs : List (Bytes × X)) → T (is_sorted order es) → unless k es ≡ fs → Makes fs (map.remove (made es) k)
  unless_is k es fs s e = where_is _ es fs _ s (λ q.
      map.get-remove nat_list_cmp_total (made es) k q
      ∙ ap (λ b. cond b None (map.get (made es) q)) ((eq_by_cmp_equiv nat_list_cmp_total).symm q k)
      ∙ sym (turned (eq_by_cmp order k q) _ _)) e

  pub retained : (p : Bytes → Bool) (m : FinMap order X) (fs : List (Bytes × X)) → fs ≡ where_key order p (map.entries m) → Makes fs (map.retain_keys m p)
  retained p m fs e =
      let same = (makes (map.entries m) m refl).same in
      where_is p (map.entries m) fs _ (map.entries_sorted m) (λ q.
      map.get-retain_keys m p q (λ x t. ap p (sym (same_key q x t)))
      ∙ ap (λ n. cond (p q) (map.get n q) None) (sym same)) (sym e)

  -- ---- where the key is

  pub at_within : (k : Bytes) (es : List (Bytes × X)) (i : ℕ) → IsAt k es i → i < length es
  at_within k [] i h = absurd h
  at_within k (e ∷ es) zero h = omega arith
  at_within k (e ∷ es) (suc i) h = omega (arith, at_within k es i h.1)

  find_at : (k : Bytes) (es : List (Bytes × X)) (i : ℕ) (d : Bytes × X) → IsAt k es i → find order k es ≡ Some (get_or es i d).1
  find_at k [] i d h = absurd h
  find_at k (e ∷ es) zero d h = rw h refl
  find_at k (e ∷ es) (suc i) d h = rw h.0 (find_at k es i d h.1)

  put_at : (k : Bytes) (v : X) (es : List (Bytes × X)) (i : ℕ) → IsAt k es i → put order k v es ≡ set es i (k, v)
  put_at k v [] i h = absurd h
  put_at k v (e ∷ es) zero h = rw h (ap (λ x. (x, v) ∷ es) (sym (same_key k e.0 h)))
  put_at k v (e ∷ es) (suc i) h = rw h.0 (ap (λ xs. e ∷ xs) (put_at k v es i h.1))

  unless_above : (k : Bytes) (es : List (Bytes × X)) → AllAbove k es → unless k es ≡ es
  unless_above k [] h = refl
  unless_above k (e ∷ es) h = rw h.0 (ap (λ xs. e ∷ xs) (unless_above k es h.1))

  remove_at : (k : Bytes) (es : List (Bytes × X)) (i : ℕ) → T (is_sorted order es) → IsAt k es i → unless k es ≡ remove es i
  remove_at k [] i s h = absurd h
  remove_at k (e ∷ es) zero s h = rw h (unless_above k es (subst (λ x. AllAbove x es) (sym (same_key k e.0 h)) (above_first e es s)))
  remove_at k (e ∷ es) (suc i) s h = rw h.0 (ap (λ xs. e ∷ xs) (remove_at k es i (second _ _ s) h.1))

  pub present : (k : Bytes) (es : List (Bytes × X)) (i : ℕ) → T (is_sorted order es) → IsAt k es i → Present k es i
  present k es i s h = record {
    within = at_within k es i h;
    value = λ e is. map.get-from_sorted order es k s ∙ find_at k es i e h ∙ ap (λ x. Some x.1) (sym is);
    again = λ v. put_makes k v es _ s (put_at k v es i h);
    removed = unless_is k es _ s (remove_at k es i s h);
  }

  -- ---- where the key would go

  pub goes_within : (k : Bytes) (es : List (Bytes × X)) (i : ℕ) → GoesTo k es i → i ≤ length es
  goes_within k es zero h = omega arith
  goes_within k [] (suc i) h = absurd h
  goes_within k (e ∷ es) (suc i) h = omega (arith, goes_within k es i h.1)

  none_above : (k : Bytes) (es : List (Bytes × X)) → AllAbove k es → find order k es ≡ None
  none_above k [] h = refl
  none_above k (e ∷ es) h = rw h.0 (none_above k es h.1)

  find_none : (k : Bytes) (es : List (Bytes × X)) (i : ℕ) → GoesTo k es i → find order k es ≡ None
  find_none k es zero h = none_above k es h
  find_none k [] (suc i) h = absurd h
  find_none k (e ∷ es) (suc i) h = rw h.0 (find_none k es i h.1)

  put_above : (k : Bytes) (v : X) (es : List (Bytes × X)) → AllAbove k es → put order k v es ≡ (k, v) ∷ es
  put_above k v [] h = refl
  put_above k v (e ∷ es) h = rw h.0 refl

  put_new : (k : Bytes) (v : X) (es : List (Bytes × X)) (i : ℕ) → GoesTo k es i → put order k v es ≡ insert es i (k, v)
  put_new k v es zero h = put_above k v es h
  put_new k v [] (suc i) h = absurd h
  put_new k v (e ∷ es) (suc i) h = rw h.0 (ap (λ xs. e ∷ xs) (put_new k v es i h.1))

  unless_none : (k : Bytes) (es : List (Bytes × X)) (i : ℕ) → GoesTo k es i → unless k es ≡ es
  unless_none k es zero h = unless_above k es h
  unless_none k [] (suc i) h = refl
  unless_none k (e ∷ es) (suc i) h = rw h.0 (ap (λ xs. e ∷ xs) (unless_none k es i h.1))

  pub absent : (k : Bytes) (es : List (Bytes × X)) (i : ℕ) → T (is_sorted order es) → GoesTo k es i → Absent k es i
  absent k es i s h = record {
    within = goes_within k es i h;
    value = map.get-from_sorted order es k s ∙ find_none k es i h;
    added = λ v. put_makes k v es _ s (put_new k v es i h);
    removed = sym (unless_is k es es s (unless_none k es i h)).same;
  }

  pub placed : (k : Bytes) (es : List (Bytes × X)) (r : Result ℕ ℕ) → T (is_sorted order es) → MatchResult r (IsAt k es) (GoesTo k es) → MatchResult r (Present k es) (Absent k es)
  placed k es (Ok i) s h = present k es i s h
  placed k es (Err i) s h = absent k es i s h
