-- A key that is put in its place in a list in byte order.
use Rattle.std.proofs.Common.{◌≡◌, ℕ, zero, suc, ◌+◌, ◌<◌, ◌≤◌, cond, List, [], ◌∷◌, ◌++◌, length, take, drop, get_or, set, refl, sym, ap, subst, ◌∙◌, append_assoc, arith}
use Rattle.std.specs.Prelude.{Option, Some, None, is_some, slice_get}
use Rattle.std.specs.List.{insert}
use Rattle.std.proofs.Math.Dec.{T}
use Rattle.std.specs.Ordering.{is_eq}
use Rattle.std.specs.declared.cmp.Ordering.{Ordering}
use Rattle.std.specs.declared.cmp.Ordering.TheVariants.{Less, Equal, Greater}
use Rattle.std.specs.Cmp.Lexicographic.{nat_list_cmp_total}
use Rattle.std.specs.FinMap.{entries-insert, entries_sorted, get-entries}
use Rattle.std.specs.FinMap as fin
use Rattle.std.specs.FinMap.Entries.{by_order, find, put, is_sorted, length-put}
use Rattle.std.proofs.lemmas.List.{drop_all, drop_more, drop-set-lt, get_or_default, take_more, take_more_set, set-get_or, set_split}
use Rattle.std.proofs.lemmas.List.Edits.{length-insert}
use Rattle.std.proofs.lemmas.Option.{get_or_from_slice_get, same_Some, slice_get_within}
use Rattle.df_model.specs.Values.{Bytes}
use Rattle.df_model.specs.declared.keys.Mode.{Mode}
use Rattle.df_model.specs.declared.keys.Mode.TheVariants.{Shared, Exclusive}
use Rattle.df_model.proofs.LocalityLaws.{same_bytes}
use Rattle.df_footprints.specs.Footprints.{Modes, stronger}
use Rattle.df_footprints.specs.Naming.{Adds}
use Rattle.df_footprints.proofs.GatherLaws.{order}
use Rattle.df_keys.specs.Places.{IsPlace}
use Rattle.df_keys.specs.declared.few.Place.TheVariants as places

-- ---- the search

-- the key comes behind so many entries
pub record Past (key : Bytes) (es : List (Bytes × Mode)) (i : ℕ) : Type 0 where
  pub puts : (new : Mode) → put order key new es ≡ take i es ++ put order key new (drop i es)
  pub finds : find order key es ≡ find order key (drop i es)

pub past_none : (key : Bytes) (es : List (Bytes × Mode)) → Past key es 0
past_none key es = record { puts = λ new. refl; finds = refl }

module _ (key : Bytes) (es : List (Bytes × Mode)) (i : ℕ) (e : Bytes × Mode) (lt : i < length es) (is : e ≡ get_or es i e) (past : Past key es i) where
  split : drop i es ≡ e ∷ drop (i + 1) es
  split = drop_more es i e lt ∙ ap (λ x. x ∷ drop (i + 1) es) (sym is)

  -- what is put there, by how the key compares to the entry
  puts_by : (r : Ordering) → order key e.0 ≡ r → (new : Mode) →
      put order key new es ≡ take i es ++ by_order r ((key, new) ∷ e ∷ drop (i + 1) es) ((e.0, new) ∷ drop (i + 1) es) (e ∷ put order key new (drop (i + 1) es))
  puts_by r c new =
      past.puts new
      ∙ ap (λ l. take i es ++ put order key new l) split
      ∙ ap (λ o. take i es ++ by_order o ((key, new) ∷ e ∷ drop (i + 1) es) ((e.0, new) ∷ drop (i + 1) es) (e ∷ put order key new (drop (i + 1) es))) c

  finds_by : (r : Ordering) → order key e.0 ≡ r → find order key es ≡ cond (is_eq r) (Some e.1) (find order key (drop (i + 1) es))
  finds_by r c = past.finds ∙ ap (find order key) split ∙ ap (λ o. cond (is_eq o) (Some e.1) (find order key (drop (i + 1) es))) c

  pub past_more : order key e.0 ≡ Greater → Past key es (i + 1)
  past_more c = record {
    puts = λ new.
        puts_by Greater c new
        ∙ sym (append_assoc (take i es) (e ∷ []) (put order key new (drop (i + 1) es)))
        ∙ ap (λ l. l ++ put order key new (drop (i + 1) es)) (ap (λ x. take i es ++ x ∷ []) is ∙ sym (take_more es i e lt));
    finds = finds_by Greater c;
  }

  pub place_before : order key e.0 ≡ Less → IsPlace key es (places.Free i)
  place_before c = (omega arith, λ new. puts_by Less c new ∙ ap (λ l. take i es ++ (key, new) ∷ l) (sym split))

  pub place_here : order key e.0 ≡ Equal → IsPlace key es (places.Held i e.1)
  place_here c =
      let same : key ≡ e.0 = same_bytes key e.0 c in
      let next : i + 1 ≡ suc i = omega arith in (
        lt,
        get_or_default es i (key, e.1) e lt ∙ sym is ∙ ap (λ k. (k, e.1)) (sym same),
        finds_by Equal c,
        λ new.
            puts_by Equal c new
            ∙ ap (λ k. take i es ++ (k, new) ∷ drop (i + 1) es) (sym same)
            ∙ ap (λ n. take i es ++ (key, new) ∷ drop n es) next
            ∙ sym (set_split es i (key, new) lt),
      )

-- behind all
pub place_last : (key : Bytes) (es : List (Bytes × Mode)) (i : ℕ) → length es ≤ i → i ≤ length es → Past key es i → IsPlace key es (places.Free i)
place_last key es i all within past =
    let none : drop i es ≡ [] = drop_all i es all in
    (within, λ new. past.puts new ∙ ap (λ l. take i es ++ put order key new l) none ∙ ap (λ l. take i es ++ (key, new) ∷ l) (sym none))

-- ---- what is added

module _ (es : List (Bytes × Mode)) (key : Bytes) (mode : Mode) where
  adds_put : (new : Mode) → ((modes : Modes) → es ≡ fin.entries modes → stronger mode (find order key es) ≡ new) → Adds es ((key, mode) ∷ []) (put order key new es)
  adds_put new takes = λ modes e.
      ap (put order key new) e
      ∙ sym (entries-insert nat_list_cmp_total modes key new)
      ∙ ap (λ m. fin.entries (fin.insert modes key m)) (sym (ap (stronger mode) (get-entries modes key ∙ ap (find order key) (sym e)) ∙ takes modes e))

  alone : (mode : Mode) → stronger mode None ≡ mode
  alone Shared = refl
  alone Exclusive = refl

  missing : (o : Option Mode) (n : ℕ) → n + 1 ≡ cond (is_some o) n (n + 1) → o ≡ None
  missing None n e = refl
  missing (Some m) n e = absurd (omega arith)

  pub adds_free : (at : ℕ) → IsPlace key es (places.Free at) → Adds es ((key, mode) ∷ []) (insert es at (key, mode))
  adds_free at is = subst (Adds es ((key, mode) ∷ [])) (is.1 mode) (adds_put mode (λ modes e. ap (stronger mode) (none modes e) ∙ alone mode))
    where
      none : (modes : Modes) → es ≡ fin.entries modes → find order key es ≡ None
      none modes e =
          missing (find order key es) (length es)
          (sym (length-insert es at (key, mode) is.0) ∙ ap length (sym (is.1 mode))
          ∙ length-put order nat_list_cmp_total key mode es (subst (λ l. T (is_sorted order l)) (sym e) (entries_sorted modes)))

  pub adds_held : (at : ℕ) (held : Mode) → IsPlace key es (places.Held at held) → stronger mode (Some held) ≡ mode → Adds es ((key, mode) ∷ []) (set es at (key, mode))
  adds_held at held is takes = subst (Adds es ((key, mode) ∷ [])) (is.3 mode) (adds_put mode (λ modes e. ap (stronger mode) is.2 ∙ takes))

  -- a mode as strong stays
  pub adds_kept : (at : ℕ) (held : Mode) → IsPlace key es (places.Held at held) → Some held ≡ Some (stronger mode (Some held)) → Adds es ((key, mode) ∷ []) es
  adds_kept at held is covered =
      subst (Adds es ((key, mode) ∷ [])) (is.3 held ∙ ap (set es at) (sym is.1) ∙ set-get_or es at (key, held))
      (adds_put held (λ modes e. ap (stronger mode) is.2 ∙ sym (same_Some held (stronger mode (Some held)) covered)))

-- ---- an element put between others

pub insert_end : {X : Type 0} (xs : List X) (i : ℕ) (x : X) → length xs ≤ i → take i xs ++ x ∷ drop i xs ≡ xs ++ x ∷ []
insert_end [] zero x le = refl
insert_end [] (suc i) x le = refl
insert_end (y ∷ xs) zero x le = absurd (omega arith)
insert_end (y ∷ xs) (suc i) x le = ap (λ l. y ∷ l) (insert_end xs i x (omega arith))

-- it takes the place of one, which goes behind it
pub insert_more : {X : Type 0} (xs : List X) (i : ℕ) (x y : X) → slice_get xs i ≡ Some y → insert (set xs i x) (i + 1) y ≡ insert xs i x
insert_more xs i x y at =
    let lt : i < length xs = slice_get_within xs i y at in
    let rest : drop i xs ≡ y ∷ drop (i + 1) xs = drop_more xs i y lt ∙ ap (λ z. z ∷ drop (i + 1) xs) (get_or_from_slice_get xs i y y at) in
    ap (λ l. l ++ y ∷ drop (i + 1) (set xs i x)) (take_more_set xs i x lt)
    ∙ ap (λ l. (take i xs ++ x ∷ []) ++ y ∷ l) (drop-set-lt (i + 1) xs i x (omega arith))
    ∙ append_assoc (take i xs) (x ∷ []) (y ∷ drop (i + 1) xs)
    ∙ ap (λ l. take i xs ++ x ∷ l) (sym rest)
