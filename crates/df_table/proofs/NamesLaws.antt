-- Keys that were collected and sorted: the keys of the keyspace that match, in byte order.
use Rattle.std.proofs.Common.{◌≡◌, ◌+◌, ◌<◌, Bool, true, false, cond, List, [], ◌∷◌, length, get_or, map, refl, sym, ap, subst, ◌∙◌, arith}
use Rattle.std.specs.Prelude.{Option, Some, None, is_some, T, ◌&&◌, ◌||◌}
use Rattle.std.specs.Option.{option_map}
use Rattle.std.specs.declared.cmp.Ordering.{Ordering}
use Rattle.std.specs.declared.cmp.Ordering.TheVariants.{Less, Equal, Greater}
use Rattle.std.specs.List.{filter, list_any, IsDistinct, AllByRecursion}
use Rattle.std.specs.List.Sorted.{IsPermutation, IsSorted, IsStrictlySortedBy}
use Rattle.std.specs.Map.{lookup, keys_of}
use Rattle.std.specs.Ordering.{nat_cmp, is_lt, is_eq, eq_by_cmp, ordering_reverse}
use Rattle.std.specs.Cmp.{IsTotalOrder}
use Rattle.std.specs.Cmp.Lexicographic.{slice_cmp, nat_list_cmp_total, nat_list_eq_equiv, texts_ties}
use Rattle.std.specs.FinMap.{find, is_sorted, entries, entries_sorted, IsAntisymmetric, contains_key-keys}
use Rattle.std.specs.FinMap as fin
use Rattle.std.specs.FinMap.Entries.{below_all, same_entries}
use Rattle.std.proofs.lemmas.List.{length-map, get_or-map}
use Rattle.std.proofs.lemmas.List.Kept.{IsStrictlySortedBy-filter}
use Rattle.std.proofs.lemmas.List.Sorted.{IsPermutation-map, list_any-IsPermutation}
use Rattle.std.proofs.lemmas.Map.Keys.{IsDistinct-IsPermutation, apart_from_distinct, sorted_from_all_adjacent}
use Rattle.std.proofs.lemmas.Map.Made.{is_some-lookup}
use Rattle.std.proofs.lemmas.Map.Views.{any-filter_same}
use Rattle.df_model.specs.Values.{Bytes, Value}
use Rattle.df_model.specs.Words.{same}
use Rattle.df_model.proofs.LocalityLaws.{equal, same_bytes}
use Rattle.df_table.specs.Tables.{keyspace_of}
use Rattle.df_table.proofs.TableLaws.{held_entry}

both : (a b : Bool) → T a → T b → T (a && b)
both true b p q = q
both false b p q = p

first : (a b : Bool) → T (a && b) → T a
first true b p = tt
first false b p = p

second : (a b : Bool) → T (a && b) → T b
second true b p = p
second false b p = absurd p

less : (o : Ordering) → T (is_lt o) → o ≡ Less
less Less p = refl
less Equal p = absurd p
less Greater p = absurd p

-- ---- lists that strictly rise

module _ {K : Type 0} (R : K → K → Ordering) where
  -- each key with nothing
  abbrev alone : List K → List (K × Unit {0})
  alone ks = map (λ k. (k, tt)) ks

  keys_alone : (ks : List K) → map (λ e. e.0) (alone ks) ≡ ks
  keys_alone [] = refl
  keys_alone (k ∷ ks) = ap (λ l. k ∷ l) (keys_alone ks)

  below_alone : (x : K) (ks : List K) → AllByRecursion (λ y. R x y ≡ Less) ks → T (below_all R x (alone ks))
  below_alone x [] all = tt
  below_alone x (k ∷ ks) all = both _ _ (subst (λ r. T (is_lt r)) (sym all.0) tt) (below_alone x ks all.1)

  sorted_alone : (ks : List K) → IsStrictlySortedBy R ks → T (is_sorted R (alone ks))
  unfolding IsStrictlySortedBy
  sorted_alone [] rises = tt
  sorted_alone (k ∷ ks) rises = both _ _ (below_alone k ks rises.0) (sorted_alone ks rises.1)

  find_alone : (q : K) (ks : List K) → find R q (alone ks) ≡ cond (list_any (eq_by_cmp R q) ks) (Some tt) None
  find_alone q [] = refl
  find_alone q (k ∷ ks) =
      elim (eq_by_cmp R q k) as (λ b. cond b (Some tt) (find R q (alone ks)) ≡ cond (b || list_any (eq_by_cmp R q) ks) (Some tt) None) [ true ↦ refl | false ↦ find_alone q ks ]

  below_keys : {X : Type 0} (x : K) (es : List (K × X)) → T (below_all R x es) → AllByRecursion (λ y. R x y ≡ Less) (map (λ e. e.0) es)
  below_keys x [] h = tt
  below_keys x (e ∷ es) h = (less _ (first _ _ h), below_keys x es (second _ _ h))

  keys_rise : {X : Type 0} (es : List (K × X)) → T (is_sorted R es) → IsStrictlySortedBy R (map (λ e. e.0) es)
  unfolding IsStrictlySortedBy
  keys_rise [] h = tt
  keys_rise (e ∷ es) h = (below_keys e.0 es (first _ _ h), keys_rise es (second _ _ h))

  not_after : (r s : Ordering) → s ≡ ordering_reverse r → is_lt s ≡ false → is_eq r ≡ false → r ≡ Less
  not_after Less s e h g = refl
  not_after Equal s e h g = cc
  not_after Greater s e h g = let no : true ≡ false = sym (ap is_lt e) ∙ h in cc

  module _ (o : IsTotalOrder R) where
    -- two that hold the same keys are equal
    same_rising : IsAntisymmetric R → (ks js : List K) → IsStrictlySortedBy R ks → IsStrictlySortedBy R js → ((q : K) → list_any (eq_by_cmp R q) ks ≡ list_any (eq_by_cmp R q) js) → ks ≡ js
    same_rising same ks js up rises is =
        sym (keys_alone ks)
        ∙ ap (map (λ e. e.0)) (same_entries R o same (alone ks) (alone js) (sorted_alone ks up) (sorted_alone js rises) (λ q.
        find_alone q ks ∙ ap (λ b. cond b (Some tt) None) (is q) ∙ sym (find_alone q js)))
        ∙ keys_alone js

    -- keys that are sorted and differ strictly rise
    sorted_rise : {X : Type 0} (key : X → K) (E : K → K → Bool) (ties : (x y : K) → E x y ≡ eq_by_cmp R x y) (xs : List X) → IsSorted (λ x y. R (key x) (key y)) xs → IsDistinct E (map key xs) → IsStrictlySortedBy R (map key xs)
    sorted_rise key E ties [] sorted distinct = keys_rise {X = Unit {0}} [] tt
    sorted_rise key E ties (x ∷ xs) sorted distinct =
        let ys = x ∷ xs in
        sorted_from_all_adjacent o (map key ys) (key x) (λ k below.
        let here : k + 1 < length ys = omega (arith, below, length-map ys key) in
        let a = get_or (map key ys) k (key x) in
        let b = get_or (map key ys) (k + 1) (key x) in
        let before : is_lt (R b a) ≡ false =
        ap (λ y. is_lt (R y a)) (get_or-map key ys (k + 1) x (key x) here)
        ∙ ap (λ y. is_lt (R (key (get_or ys (k + 1) x)) y)) (get_or-map key ys k x (key x) (omega arith))
        ∙ sorted k x (omega arith) here in
        not_after (R a b) (R b a) (o.antisymm b a) before
        (sym (ties a b) ∙ apart_from_distinct E (map key ys) k (k + 1) (key x) distinct (omega arith) below))

-- ---- the keys that match

all_filter : {K : Type 0} (P : K → Type 0) (p : K → Bool) (xs : List K) → AllByRecursion P xs → AllByRecursion P (filter p xs)
all_filter P p [] all = tt
all_filter P p (x ∷ xs) all =
    let rest = all_filter P p xs all.1 in
    elim (p x) as (λ b. AllByRecursion P (cond b (x ∷ filter p xs) (filter p xs))) [ true ↦ (all.0, rest) | false ↦ rest ]

distinct_filter : {K : Type 0} (E : K → K → Bool) (p : K → Bool) (xs : List K) → IsDistinct E xs → IsDistinct E (filter p xs)
unfolding IsDistinct
distinct_filter E p [] distinct = tt
distinct_filter E p (x ∷ xs) distinct =
    let rest = distinct_filter E p xs distinct.1 in
    elim (p x) as (λ b. IsDistinct E (cond b (x ∷ filter p xs) (filter p xs))) [ true ↦ (all_filter _ p xs distinct.0, rest) | false ↦ rest ]

is_some_seen : {X : Type 0} (seen : X → Value) (v : Option X) → is_some (option_map seen v) ≡ is_some v
is_some_seen seen None = refl
is_some_seen seen (Some x) = refl

any_tied : (q : Bytes) (ks : List Bytes) → list_any (same q) ks ≡ list_any (eq_by_cmp (slice_cmp nat_cmp) q) ks
any_tied q [] = refl
any_tied q (k ∷ ks) = ap (λ b. b || list_any (same q) ks) (texts_ties q k) ∙ ap (λ b. eq_by_cmp (slice_cmp nat_cmp) q k || b) (any_tied q ks)

passes_alike : (p : Bytes → Bool) (q k : Bytes) → eq_by_cmp (slice_cmp nat_cmp) q k ≡ true → p k ≡ p q
passes_alike p q k e = ap p (sym (same_bytes q k (equal _ e)))

any_passing : (p : Bytes → Bool) (q : Bytes) (ks : List Bytes) → list_any (eq_by_cmp (slice_cmp nat_cmp) q) (filter p ks) ≡ (p q && list_any (eq_by_cmp (slice_cmp nat_cmp) q) ks)
any_passing p q ks = any-filter_same (eq_by_cmp (slice_cmp nat_cmp) q) p (p q) (λ k e. passes_alike p q k e) ks

module _ {V : Type 0} (seen : V → Value) where
  -- the keyspace has the keys of its entries
  has_keys : (es : List (Bytes × V)) (q : Bytes) → list_any (eq_by_cmp (slice_cmp nat_cmp) q) (keys_of es) ≡ list_any (eq_by_cmp (slice_cmp nat_cmp) q) (fin.keys (keyspace_of seen es))
  has_keys es q =
      sym (any_tied q (keys_of es))
      ∙ sym (is_some-lookup (same q) es)
      ∙ sym (is_some_seen seen (lookup (same q) es))
      ∙ sym (ap is_some (held_entry seen es q))
      ∙ contains_key-keys (keyspace_of seen es) q

  -- the keys of the entries that match, sorted by what they are
  pub names_sorted : {X : Type 0} (key : X → Bytes) (p : Bytes → Bool) (es : List (Bytes × V)) (collected names : List X)
      → map key collected ≡ filter p (keys_of es) → IsDistinct same (keys_of es) → IsPermutation collected names → IsSorted (λ x y. slice_cmp nat_cmp (key x) (key y)) names
      → map key names ≡ filter p (fin.keys (keyspace_of seen es))
  names_sorted key p es collected names is distinct moved sorted =
      let K = keyspace_of seen es in
      let moved_keys : IsPermutation (map key collected) (map key names) = IsPermutation-map key collected names moved in
      let apart : IsDistinct same (map key names) =
      IsDistinct-IsPermutation same (λ x y. nat_list_eq_equiv.symm x y) (map key collected) (map key names) moved_keys
      (subst (IsDistinct same) (sym is) (distinct_filter same p (keys_of es) distinct)) in
      same_rising (slice_cmp nat_cmp) nat_list_cmp_total (λ x y e. same_bytes x y e) (map key names) (filter p (fin.keys K))
      (sorted_rise (slice_cmp nat_cmp) nat_list_cmp_total key same texts_ties names sorted apart)
      (IsStrictlySortedBy-filter (slice_cmp nat_cmp) p (fin.keys K) (keys_rise (slice_cmp nat_cmp) (entries K) (entries_sorted K)))
      (λ q.
      sym (list_any-IsPermutation (eq_by_cmp (slice_cmp nat_cmp) q) (map key collected) (map key names) moved_keys)
      ∙ ap (list_any (eq_by_cmp (slice_cmp nat_cmp) q)) is
      ∙ any_passing p q (keys_of es)
      ∙ ap (λ b. p q && b) (has_keys es q)
      ∙ sym (any_passing p q (fin.keys K)))

  all_pass : {A : Type 0} (xs : List A) → filter (λ _. true) xs ≡ xs
  all_pass [] = refl
  all_pass (x ∷ xs) = ap (λ l. x ∷ l) (all_pass xs)

  -- all keys of the entries, sorted by what they are
  pub all_sorted : {X : Type 0} (key : X → Bytes) (es : List (Bytes × V)) (collected names : List X)
      → map key collected ≡ keys_of es → IsDistinct same (keys_of es) → IsPermutation collected names → IsSorted (λ x y. slice_cmp nat_cmp (key x) (key y)) names
      → map key names ≡ fin.keys (keyspace_of seen es)
  all_sorted key es collected names is distinct moved sorted =
      names_sorted key (λ _. true) es collected names (is ∙ sym (all_pass (keys_of es))) distinct moved sorted ∙ all_pass (fin.keys (keyspace_of seen es))
