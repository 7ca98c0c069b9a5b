-- The law of the cut, step by step.
use Rattle.std.proofs.Common.{◌≡◌, ℕ, suc, ◌<◌, ◌≤◌, List, [], ◌∷◌, ◌++◌, map, length, get_or, take, drop, set, Bool, true, false, ltb, refl, ap, sym, subst, ◌∙◌, arith, append_assoc, length-append}
use Rattle.std.specs.Ordering.{nat_cmp}
use Rattle.std.specs.Cmp.Lexicographic.{slice_cmp}
use Rattle.std.specs.FinMap.{FinMap}
use Rattle.std.proofs.lemmas.List.Elements.{filter-append}
use Rattle.std.proofs.lemmas.List.{append-nil}
use Rattle.std.proofs.lemmas.Bool.{lt-ltb, le-ltb}
use Rattle.df_model.specs.Values.{Bytes}
use Rattle.df_segment.specs.Buckets.{Bucket}
use Rattle.df_segment.proofs.ListLaws.{flat_map_parted, flat_map_set}
use Rattle.df_dashtable.specs.Visible.{under, is_under, Spells, visible_in, visible_entries, older_in, older_entries}
use Rattle.df_dashtable.specs.Moves.{Moves, TakenOut}

module _ {V : Type 0} where
  -- nothing happened
  pub moves_none : (old : List (Bytes × V)) → Moves old [] old
  moves_none old key = refl

  -- one step after another
  pub moves_more : (a m b n c : List (Bytes × V)) → Moves a m b → Moves b n c → Moves a (m ++ n) c
  moves_more a m b n c f h key =
      f key
      ∙ filter-append (is_under key) m b
      ∙ ap (λ xs. under key m ++ xs) (h key)
      ∙ sym (filter-append (is_under key) m (n ++ c))
      ∙ ap (under key) (sym (append_assoc m n c))

  -- the law of the cut is kept by a step
  pub cut_step : (written old moved new : List (Bytes × V)) (K : FinMap (slice_cmp nat_cmp) V)
      → Spells (written ++ old) K → Moves old moved new → Spells ((written ++ moved) ++ new) K
  cut_step written old moved new K law step key =
      ap (λ xs. map (λ e. e.1) xs)
      (ap (under key) (append_assoc written moved new)
      ∙ filter-append (is_under key) written (moved ++ new)
      ∙ ap (λ xs. under key written ++ xs) (sym (step key))
      ∙ sym (filter-append (is_under key) written old))
      ∙ law key

  -- at the end nothing is older
  pub cut_end : (written old : List (Bytes × V)) (K : FinMap (slice_cmp nat_cmp) V)
      → Spells (written ++ old) K → old ≡ [] → Spells written K
  cut_end written old K law none key =
      ap (λ xs. map (λ e. e.1) (under key xs)) (sym (append-nil written) ∙ ap (λ xs. written ++ xs) (sym none)) ∙ law key

swapped : {X : Type 0} (a b c : List X) → length (a ++ (b ++ c)) ≤ 1 → a ++ (b ++ c) ≡ b ++ (a ++ c)
swapped [] b c h = refl
swapped (x ∷ a) [] c h = refl
swapped (x ∷ a) (y ∷ b) c h =
    absurd (let e = length-append (x ∷ a) ((y ∷ b) ++ c) in let f = length-append (y ∷ b) c in omega arith)

module _ {V : Type 0} where
  parts : (key : Bytes) (a b c : List (Bytes × V)) → under key (a ++ (b ++ c)) ≡ under key a ++ (under key b ++ under key c)
  parts key a b c = filter-append (is_under key) a (b ++ c) ∙ ap (λ xs. under key a ++ xs) (filter-append (is_under key) b c)

  -- a part that was taken out has moved, where each key stands once at most
  pub taken_moves : (old part new : List (Bytes × V)) → TakenOut old part new
      → ((key : Bytes) → length (under key old) ≤ 1) → Moves old part new
  taken_moves old part new t once key =
      let o = once key in
      let h : length (under key t.before ++ (under key part ++ under key t.behind)) ≤ 1 =
      subst (λ (xs : List (Bytes × V)). length xs ≤ 1) (ap (under key) t.old_is ∙ parts key t.before part t.behind) o in
      ap (under key) t.old_is
      ∙ parts key t.before part t.behind
      ∙ swapped (under key t.before) (under key part) (under key t.behind) h
      ∙ sym (parts key part t.before t.behind)
      ∙ ap (λ xs. under key (part ++ xs)) (sym t.new_is)

  pub older_yes : (version : ℕ) (b : Bucket V) → b.version < version → older_in version b ≡ visible_in b
  older_yes version b h = rw (lt-ltb b.version version h) refl

  pub older_no : (version : ℕ) (b : Bucket V) → version ≤ b.version → older_in version b ≡ []
  older_no version b h = rw (le-ltb b.version version h) refl

  -- a bucket that is marked leaves the older ones
  pub mark_takes : (version : ℕ) (d : Bucket V) (bs : List (Bucket V)) (i : ℕ) (b : Bucket V) → i < length bs
      → (get_or bs i d).version < version → version ≤ b.version
      → TakenOut (older_entries version bs) (visible_in (get_or bs i d)) (older_entries version (set bs i b))
  mark_takes version d bs i b within older newer = record {
    before = older_entries version (take i bs);
    behind = older_entries version (drop (suc i) bs);
    old_is = flat_map_parted (older_in version) d bs i within
        ∙ ap (λ xs. older_entries version (take i bs) ++ (xs ++ older_entries version (drop (suc i) bs))) (older_yes version (get_or bs i d) older);
    new_is = flat_map_set (older_in version) bs i b within
        ∙ ap (λ xs. older_entries version (take i bs) ++ (xs ++ older_entries version (drop (suc i) bs))) (older_no version b newer);
  }

  -- a change in a bucket that isn't older leaves the older entries
  pub newer_keeps : (version : ℕ) (d : Bucket V) (bs : List (Bucket V)) (i : ℕ) (b : Bucket V) → i < length bs
      → version ≤ (get_or bs i d).version → version ≤ b.version
      → older_entries version (set bs i b) ≡ older_entries version bs
  newer_keeps version d bs i b within old new =
      flat_map_set (older_in version) bs i b within
      ∙ ap (λ xs. older_entries version (take i bs) ++ (xs ++ older_entries version (drop (suc i) bs))) (older_no version b new ∙ sym (older_no version (get_or bs i d) old))
      ∙ sym (flat_map_parted (older_in version) d bs i within)

  -- a version above all makes all entries older
  pub raise_takes : (version : ℕ) (d : Bucket V) (bs : List (Bucket V)) → ((i : ℕ) → i < length bs → (get_or bs i d).version < version)
      → older_entries version bs ≡ visible_entries bs
  raise_takes version d [] below = refl
  raise_takes version d (b ∷ bs) below =
      ap (λ xs. xs ++ older_entries version bs) (older_yes version b (below 0 (omega arith)))
      ∙ ap (λ xs. visible_in b ++ xs) (raise_takes version d bs (λ i w. below (suc i) (omega arith)))

  -- where no bucket is older, nothing is
  pub none_older : (version : ℕ) (d : Bucket V) (bs : List (Bucket V)) → ((i : ℕ) → i < length bs → version ≤ (get_or bs i d).version)
      → older_entries version bs ≡ []
  none_older version d [] all = refl
  none_older version d (b ∷ bs) all =
      ap (λ xs. xs ++ older_entries version bs) (older_no version b (all 0 (omega arith)))
      ∙ none_older version d bs (λ i w. all (suc i) (omega arith))

  one_bucket : (version : ℕ) (key : Bytes) (b : Bucket V) (t : Bool) → ltb b.version version ≡ t
      → length (under key (older_in version b)) ≤ length (under key (visible_in b))
  one_bucket version key b true e = rw e (omega arith)
  one_bucket version key b false e = rw e (omega arith)

  -- a key that is visible once at most is older once at most
  pub older_once : (version : ℕ) (key : Bytes) (bs : List (Bucket V))
      → length (under key (older_entries version bs)) ≤ length (under key (visible_entries bs))
  older_once version key [] = omega arith
  older_once version key (b ∷ bs) =
      let more = older_once version key bs in
      let e = ap length (filter-append (is_under key) (older_in version b) (older_entries version bs)) ∙ length-append (under key (older_in version b)) (under key (older_entries version bs)) in
      let f = ap length (filter-append (is_under key) (visible_in b) (visible_entries bs)) ∙ length-append (under key (visible_in b)) (under key (visible_entries bs)) in
      let one = one_bucket version key b (ltb b.version version) refl in
      omega arith
