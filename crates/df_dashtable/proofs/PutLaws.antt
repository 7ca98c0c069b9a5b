-- What an edit of one entry does to what each key has.
use Rattle.std.proofs.Common.{◌≡◌, ◌≤◌, List, [], ◌∷◌, length, Bool, true, false, cond, refl, ap, sym, subst, ◌∙◌, arith}
use Rattle.std.specs.Str.{bytes_eq}
use Rattle.std.proofs.lemmas.Slice.Eq.{bytes_eq-Decides}
use Rattle.df_model.specs.Values.{Bytes}
use Rattle.df_segment.specs.Entries.{Slot, has_key, found, shown}
use Rattle.df_segment.specs.Changes.{Changes}
use Rattle.df_segment.proofs.ChangeLaws.{own_changes, others_stay}
use Rattle.df_segment.proofs.SoundLaws.{same_key}

pub own_equal : (key : Bytes) → bytes_eq key key ≡ true
own_equal key = (bytes_eq-Decides key key).1 refl

module _ {V : Type 0} where
  own_one : (e : Slot V) → found e.key (e ∷ []) ≡ e ∷ []
  own_one e = rw ((bytes_eq-Decides e.key e.key).1 refl) refl

  not_own : (e : Slot V) (key : Bytes) → bytes_eq e.key key ≡ false → found key (e ∷ []) ≡ []
  not_own e key h = rw h refl

  module _ {xs ys out into : List (Slot V)} (c : Changes xs ys out into) (own : Bytes) (others : (key : Bytes) → bytes_eq own key ≡ false → (found key out ≡ []) × (found key into ≡ []))
      (most : length (found own xs) ≤ length (found own out)) where
    by_test : (key : Bytes) (t : Bool) → bytes_eq own key ≡ t → found key ys ≡ cond t (found own into) (found key xs)
    by_test key true e = subst (λ (k : Bytes). found k ys ≡ found own into) (same_key own key e) (own_changes (has_key own) c most)
    by_test key false e = others_stay (has_key key) c (others key e).0 (others key e).1

    puts : (key : Bytes) → found key ys ≡ cond (bytes_eq own key) (found own into) (found key xs)
    puts key = by_test key (bytes_eq own key) refl

  pub put_stage : (xs ys : List (Slot V)) (e : Slot V) → Changes xs ys [] (e ∷ []) → found e.key xs ≡ []
      → (key : Bytes) → found key ys ≡ cond (bytes_eq e.key key) (e ∷ []) (found key xs)
  put_stage xs ys e c none key =
      puts c e.key (λ k h. (refl, not_own e k h)) (let f = ap length none in omega arith) key
      ∙ ap (λ (zs : List (Slot V)). cond (bytes_eq e.key key) zs (found key xs)) (own_one e)

  pub put_remove : (xs ys : List (Slot V)) (e : Slot V) → Changes xs ys (e ∷ []) [] → length (found e.key xs) ≤ 1
      → (key : Bytes) → found key ys ≡ cond (bytes_eq e.key key) [] (found key xs)
  put_remove xs ys e c most key = puts c e.key (λ k h. (not_own e k h, refl)) (let f = ap length (own_one e) in omega arith) key

  pub put_alter : (xs ys : List (Slot V)) (e f : Slot V) → Changes xs ys (e ∷ []) (f ∷ []) → f.key ≡ e.key → length (found e.key xs) ≤ 1
      → (key : Bytes) → found key ys ≡ cond (bytes_eq e.key key) (f ∷ []) (found key xs)
  put_alter xs ys e f c same most key =
      puts c e.key (λ k h. (not_own e k h, not_own f k (ap (λ (o : Bytes). bytes_eq o k) same ∙ h))) (let g = ap length (own_one e) in omega arith) key
      ∙ ap (λ (zs : List (Slot V)). cond (bytes_eq e.key key) zs (found key xs)) (ap (λ (o : Bytes). found o (f ∷ [])) (sym same) ∙ own_one f)

  -- an entry that goes is all that its key had
  pub was_found : (xs ys : List (Slot V)) (e : Slot V) (into : List (Slot V)) → Changes xs ys (e ∷ []) into → length (found e.key xs) ≤ 1 → found e.key xs ≡ e ∷ []
  was_found xs ys e into c most =
      let same : Changes xs xs (e ∷ []) (e ∷ []) = record { before = c.before; behind = c.behind; old_is = c.old_is; new_is = c.old_is } in
      own_changes (has_key e.key) same (let f = ap length (own_one e) in omega arith) ∙ own_one e

  -- an entry that is made visible
  pub shown_puts : (xs ys : List (Slot V)) (there x : Slot V) → Changes xs ys (there ∷ []) (shown there ∷ []) → length (found there.key xs) ≤ 1
      → there ≡ x → (k : Bytes) → found k ys ≡ cond (bytes_eq x.key k) (shown x ∷ []) (found k xs)
  shown_puts xs ys there x c most same k =
      subst (λ (z : Slot V). found k ys ≡ cond (bytes_eq z.key k) (shown z ∷ []) (found k xs)) same (put_alter xs ys there (shown there) c refl most k)

  -- an entry that is taken out
  pub gone_puts : (xs ys : List (Slot V)) (there : Slot V) (key : Bytes) → Changes xs ys (there ∷ []) [] → length (found there.key xs) ≤ 1
      → there.key ≡ key → (k : Bytes) → found k ys ≡ cond (bytes_eq key k) [] (found k xs)
  gone_puts xs ys there key c most same k =
      subst (λ (z : Bytes). found k ys ≡ cond (bytes_eq z k) [] (found k xs)) same (put_remove xs ys there c most k)
