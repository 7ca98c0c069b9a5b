-- Chunks in memory: the list that they make, and what keeps them sound.
use Rattle.std.proofs.Common.{◌≡◌, ℕ, zero, suc, ◌+◌, ◌-◌, ◌*◌, ◌<◌, ◌≤◌, List, [], ◌∷◌, ◌++◌, length, map, get_or, set, take, drop, inl, inr, refl, sym, ap, subst, ◌∙◌, add-one, arith, vec_len, vec_capacity}
use Rattle.std.specs.declared.vec.Vec.{Vec}
use Rattle.std.specs.List.{All, insert, remove, sum_by}
use Rattle.std.proofs.lemmas.List.{length-set, length-map, map-set, map-append, take-map, drop-map, drop-set-lt, take-set, length-append, length_push}
use Rattle.std.proofs.lemmas.List.Elements.{All-set, All-map, All-same, All-push, All-head, All-tail}
use Rattle.std.proofs.lemmas.List.Edits.{length-insert, length-remove}
use Rattle.std.proofs.lemmas.List.Sums.{sum_by-le}
use Rattle.std.proofs.lemmas.List.Concat.{length-flat_map}
use Rattle.df_colls.specs.declared.chunks.TheConstants.{FULL, MOST}
use Rattle.df_colls.specs.declared.chunks.Place.{Place}
use Rattle.df_colls.specs.Cuts.{Cut, flat, chunk_at, index_of, IsPlace, IsGap, IsFilled}
use Rattle.df_colls.specs.Parts.{item_lists, spare_of, IsFree, IsSound, AreHalves, HasMore}
use Rattle.df_colls.proofs.CutLaws.{parted, inserted, replaced, removed, read, split, without}
use Rattle.df_colls.proofs.RoomLaws.{all-insert, all-remove, rest-set, rest-insert, rest-remove, some_chunk}

module _ {V W : Type 0} (f : V → W) where
  pub map-insert : (vs : List V) (i : ℕ) (v : V) → map f (insert vs i v) ≡ insert (map f vs) i (f v)
  map-insert vs i v =
      map-append f (take i vs) (v ∷ drop i vs)
      ∙ ap (λ l. l ++ f v ∷ map f (drop i vs)) (sym (take-map f i vs))
      ∙ ap (λ l. take i (map f vs) ++ f v ∷ l) (sym (drop-map f i vs))

  pub map-remove : (vs : List V) (i : ℕ) → map f (remove vs i) ≡ remove (map f vs) i
  map-remove vs i =
      map-append f (take i vs) (drop (suc i) vs)
      ∙ ap (λ l. l ++ map f (drop (suc i) vs)) (sym (take-map f i vs))
      ∙ ap (λ l. take i (map f vs) ++ l) (sym (drop-map f (suc i) vs))

module _ {A Z : Type 0} where
  -- ---- lists of chunks

  pub list_at : (vs : List (Vec A Z)) (i : ℕ) (c : Vec A Z) → i < length vs → c ≡ get_or vs i c → chunk_at (item_lists vs) i ≡ c.items
  list_at [] i c lt is = absurd (omega arith)
  list_at (v ∷ vs) zero c lt is = ap (λ w. w.items) (sym is)
  list_at (v ∷ vs) (suc i) c lt is = list_at vs i c (omega arith) is

  lists-set : (vs : List (Vec A Z)) (i : ℕ) (d : Vec A Z) → item_lists (set vs i d) ≡ set (item_lists vs) i d.items
  lists-set vs i d = map-set (λ v. v.items) vs i d

  lists-insert : (vs : List (Vec A Z)) (i : ℕ) (d : Vec A Z) → item_lists (insert vs i d) ≡ insert (item_lists vs) i d.items
  lists-insert = map-insert (λ v. v.items)

  lists-remove : (vs : List (Vec A Z)) (i : ℕ) → item_lists (remove vs i) ≡ remove (item_lists vs) i
  lists-remove = map-remove (λ v. v.items)

  pub filled_is : (vs : List (Vec A Z)) → All (λ c. 0 < vec_len c) (drop 1 vs) → IsFilled (item_lists vs)
  filled_is vs h =
      All-same (λ c. 0 < length c) (drop 1 (item_lists vs)) (item_lists (drop 1 vs)) (drop-map (λ v. v.items) 1 vs)
      (All-map (λ c. 0 < length c) (λ v. v.items) (drop 1 vs) (λ k d lt. let n = h k d lt in let e = (get_or (drop 1 vs) k d).ok.0 in omega (arith, n, e)))

  pub filled_length : (vs : List (Vec A Z)) (i : ℕ) (c : Vec A Z) → i < length vs → c ≡ get_or vs i c → IsFilled (item_lists vs) → 0 < i → 0 < length c.items
  filled_length [] i c lt is h some = absurd (omega arith)
  filled_length (v ∷ vs) zero c lt is h some = absurd (omega arith)
  filled_length (v ∷ vs) (suc i) c lt is h some =
      let at = list_at vs i c (omega arith) is in
      let here = h i [] (omega (arith, length-map vs (λ w. w.items), lt)) in
      omega (arith, here, ap length at)

  -- what is written before a removal there makes no difference
  pub remove-set : (vs : List (Vec A Z)) (i : ℕ) (d : Vec A Z) → i < length vs → remove (set vs i d) i ≡ remove vs i
  remove-set vs i d lt = ap (λ l. l ++ drop (suc i) (set vs i d)) (take-set vs i d) ∙ ap (λ l. take i vs ++ l) (drop-set-lt (suc i) vs i d (omega arith))

  -- ---- the list, after an edit in one chunk

  module _ (vs : List (Vec A Z)) (p : Place) (c d : Vec A Z) (is : c ≡ get_or vs p.chunk c) where
    at : p.chunk < length (item_lists vs) → chunk_at (item_lists vs) p.chunk ≡ c.items
    at lt = list_at vs p.chunk c (omega (arith, length-map vs (λ v. v.items))) is

    pub got : (x : A) → IsPlace (item_lists vs) p → x ≡ get_or c.items p.at x → x ≡ get_or (flat (item_lists vs)) (index_of (item_lists vs) p) x
    got x h e = e ∙ ap (λ b. get_or b p.at x) (sym (at h.0)) ∙ sym (read (item_lists vs) p.chunk h.0 p.at x h.1)

    pub with_new : (x : A) → IsGap (item_lists vs) p → d.items ≡ insert c.items p.at x → flat (item_lists (set vs p.chunk d)) ≡ insert (flat (item_lists vs)) (index_of (item_lists vs) p) x
    with_new x h e =
        ap flat (lists-set vs p.chunk d)
        ∙ inserted (item_lists vs) p.chunk h.0 p.at x d.items h.1 (e ∙ ap (λ b. insert b p.at x) (sym (at h.0)))

    pub with_other : (x : A) → IsPlace (item_lists vs) p → d.items ≡ set c.items p.at x → flat (item_lists (set vs p.chunk d)) ≡ set (flat (item_lists vs)) (index_of (item_lists vs) p) x
    with_other x h e =
        ap flat (lists-set vs p.chunk d)
        ∙ replaced (item_lists vs) p.chunk h.0 p.at x d.items h.1 (e ∙ ap (λ b. set b p.at x) (sym (at h.0)))

    pub with_less : IsPlace (item_lists vs) p → d.items ≡ remove c.items p.at → flat (item_lists (set vs p.chunk d)) ≡ remove (flat (item_lists vs)) (index_of (item_lists vs) p)
    with_less h e =
        ap flat (lists-set vs p.chunk d)
        ∙ removed (item_lists vs) p.chunk h.0 p.at d.items h.1 (e ∙ ap (λ b. remove b p.at) (sym (at h.0)))

    -- the chunk becomes two
    pub with_halves : (high : Vec A Z) (x : A) → IsGap (item_lists vs) p → d.items ++ high.items ≡ insert c.items p.at x → flat (item_lists (insert (set vs p.chunk d) (p.chunk + 1) high)) ≡ insert (flat (item_lists vs)) (index_of (item_lists vs) p) x
    with_halves high x h e =
        ap flat (lists-insert (set vs p.chunk d) (p.chunk + 1) high ∙ ap (λ l. insert l (p.chunk + 1) high.items) (lists-set vs p.chunk d))
        ∙ split (item_lists vs) p.chunk h.0 d.items high.items _ refl
        ∙ inserted (item_lists vs) p.chunk h.0 p.at x (d.items ++ high.items) h.1 (e ∙ ap (λ b. insert b p.at x) (sym (at h.0)))

    -- the chunk is empty then, and goes
    pub with_none : IsPlace (item_lists vs) p → d.items ≡ remove c.items p.at → d.items ≡ [] → flat (item_lists (remove (set vs p.chunk d) p.chunk)) ≡ remove (flat (item_lists vs)) (index_of (item_lists vs) p)
    with_none h e none =
        ap flat (lists-remove (set vs p.chunk d) p.chunk ∙ ap (λ l. remove l p.chunk) (lists-set vs p.chunk d ∙ ap (set (item_lists vs) p.chunk) none))
        ∙ without (item_lists vs) p.chunk h.0
        ∙ removed (item_lists vs) p.chunk h.0 p.at [] h.1 (sym none ∙ e ∙ ap (λ b. remove b p.at) (sym (at h.0)))

  -- where there is room, there is a chunk
  pub gap_of : (vs free : List (Vec A Z)) (p : Place) (v : Cut A) → record { parts = item_lists vs; spare = spare_of vs free } ≡ v → (0 < length free → 0 < length vs) → 0 < v.spare → (0 < length v.parts → IsGap v.parts p) → IsGap (item_lists vs) p
  gap_of vs free p v is some room gap =
      let some : 0 < length vs = some_chunk vs free some (subst (λ w. 0 < w.spare) (sym is) room) in
      subst (λ w. 0 < length w.parts → IsGap w.parts p) (sym is) gap (omega (arith, some, length-map vs (λ v. v.items)))

  pub within_parts : (vs : List (Vec A Z)) (i : ℕ) → i < length (item_lists vs) → i < length vs
  within_parts vs i lt = omega (arith, lt, length-map vs (λ v. v.items))

  -- a place in a chunk is within its length
  pub gap_within : (vs : List (Vec A Z)) (p : Place) (c : Vec A Z) → c ≡ get_or vs p.chunk c → IsGap (item_lists vs) p → p.at ≤ vec_len c
  gap_within vs p c is h =
      let e : length (chunk_at (item_lists vs) p.chunk) ≡ length c.items = ap length (list_at vs p.chunk c (within_parts vs p.chunk h.0) is) in
      omega (arith, h.1, e, c.ok.0)

  -- one item more
  pub new_count : (vs us : List (Vec A Z)) (p : Place) (x : A) (n : ℕ) → IsGap (item_lists vs) p → n ≡ length (flat (item_lists vs)) → flat (item_lists us) ≡ insert (flat (item_lists vs)) (index_of (item_lists vs) p) x → n + 1 ≡ length (flat (item_lists us))
  new_count vs us p x n h count e =
      let here = parted (item_lists vs) p.chunk h.0 in
      let whole = ap length here ∙ length-append (flat (take p.chunk (item_lists vs))) _ in
      let behind = length-append (chunk_at (item_lists vs) p.chunk) (flat (drop (suc p.chunk) (item_lists vs))) in
      let grown = ap length e ∙ length-insert (flat (item_lists vs)) (index_of (item_lists vs) p) x (omega (arith, h.1, whole, behind)) in
      omega (arith, count, grown)

  -- where an item is
  pub some_item : (vs : List (Vec A Z)) (p : Place) (n : ℕ) → IsPlace (item_lists vs) p → n ≡ length (flat (item_lists vs)) → index_of (item_lists vs) p < n
  some_item vs p n h count =
      let here = parted (item_lists vs) p.chunk h.0 in
      let whole = ap length here ∙ length-append (flat (take p.chunk (item_lists vs))) _ in
      let behind = length-append (chunk_at (item_lists vs) p.chunk) (flat (drop (suc p.chunk) (item_lists vs))) in
      omega (arith, h.1, count, whole, behind)

  -- one item less
  pub less_count : (vs us : List (Vec A Z)) (p : Place) (n : ℕ) → IsPlace (item_lists vs) p → n ≡ length (flat (item_lists vs)) → flat (item_lists us) ≡ remove (flat (item_lists vs)) (index_of (item_lists vs) p) → n - 1 ≡ length (flat (item_lists us))
  less_count vs us p n h count e =
      let some = some_item vs p n h count in
      let shrunk = ap (λ l. length l + 1) e ∙ length-remove (flat (item_lists vs)) (index_of (item_lists vs) p) (omega (arith, count, some)) in
      omega (arith, count, shrunk)

  pub none_of : (c : Vec A Z) → vec_len c ≡ 0 → c.items ≡ []
  none_of c e = none c.items (sym c.ok.0 ∙ e)
    where
      none : (xs : List A) → length xs ≡ 0 → xs ≡ []
      none [] e = refl
      none (x ∷ xs) e = absurd (omega (arith, e))

  pub more_len : (old new : List (Vec A Z)) (c : Vec A Z) → HasMore old new c → length old ≤ length new
  more_len old new c (inl e) = let n = ap length e ∙ length_push old c in omega (arith, n)
  more_len old new c (inr e) = let n = ap length e in omega (arith, n)

  pub most_len : (old new : List (Vec A Z)) (c : Vec A Z) → HasMore old new c → length new ≤ length old + 1
  most_len old new c (inl e) = let n = ap length e ∙ length_push old c in omega (arith, n)
  most_len old new c (inr e) = let n = ap length e in omega (arith, n)

  pub last_free : (vs : List (Vec A Z)) (v : Vec A Z) → All IsFree (vs ++ v ∷ []) → IsFree v
  last_free [] v h = All-head IsFree v [] h
  last_free (w ∷ vs) v h = last_free vs v (All-tail IsFree w (vs ++ v ∷ []) h)

  -- ---- sound chunks stay sound

  -- the count of items is far from the end of its type
  pub few_items : (parts free : Vec (Vec A Z) Z) (n : ℕ) → IsSound parts free n → n ≤ MOST * FULL
  few_items parts free n s =
      let lists = item_lists parts.items in
      let fits : All (λ c. length c ≤ FULL) lists = All-map (λ c. length c ≤ FULL) (λ v. v.items) parts.items (λ k d lt. let l = s.fits k d lt in let e = (get_or parts.items k d).ok.0 in omega (arith, l, e)) in
      let sums = sum_by-le (λ c. length c) FULL lists fits in
      let all : length (flat lists) ≡ sum_by (λ c. length c) lists = length-flat_map (λ c. c) lists in
      let many : length lists ≡ length parts.items = length-map parts.items (λ v. v.items) in
      omega (arith, s.count, s.few, sums, all, many)

  pub fits_at : (vs : List (Vec A Z)) (i : ℕ) (c : Vec A Z) → i < length vs → c ≡ get_or vs i c → All (λ v. vec_len v ≤ FULL) vs → vec_len c ≤ FULL
  fits_at vs i c lt is h = subst (λ v. vec_len v ≤ FULL) (sym is) (h i c lt)

  pub filled_at : (vs : List (Vec A Z)) (i : ℕ) (c : Vec A Z) → i < length vs → c ≡ get_or vs i c → All (λ v. 0 < vec_len v) (drop 1 vs) → 0 < i → 0 < vec_len c
  filled_at [] i c lt is h some = absurd (omega arith)
  filled_at (v ∷ vs) zero c lt is h some = absurd (omega arith)
  filled_at (v ∷ vs) (suc i) c lt is h some = subst (λ w. 0 < vec_len w) (sym is) (h i c (omega arith))

  module _ (parts free : Vec (Vec A Z) Z) (n : ℕ) (s : IsSound parts free n) (i : ℕ) (lt : i < length parts.items) where
    wide_at : (c : Vec A Z) → c ≡ get_or parts.items i c → 1 < length parts.items + length free.items → FULL ≤ vec_capacity c
    wide_at c is many = subst (λ v. FULL ≤ vec_capacity v) (sym is) (s.wide many i c lt)

    -- another chunk stands there
    pub sound-set : (to : Vec (Vec A Z) Z) (m : ℕ) (c d : Vec A Z) → c ≡ get_or parts.items i c → to.items ≡ set parts.items i d → vec_capacity parts ≤ vec_capacity to → vec_capacity c ≤ vec_capacity d → vec_len d ≤ FULL → (0 < i → 0 < vec_len d) → m ≡ length (flat (item_lists to.items)) → IsSound to free m
    sound-set to m c d is e cap grows fits filled count =
        let len : length to.items ≡ length parts.items = ap length e ∙ length-set parts.items i d in
        record {
          count = count;
          filled = subst (λ vs. All (λ v. 0 < vec_len v) (drop 1 vs)) (sym e) (rest-set (λ v. 0 < vec_len v) parts.items i d s.filled filled);
          fits = All-same (λ v. vec_len v ≤ FULL) to.items _ e (All-set (λ v. vec_len v ≤ FULL) parts.items i d fits s.fits);
          wide = λ many.
              let before : 1 < length parts.items + length free.items = omega (arith, len, many) in
              let here = wide_at c is before in
              All-same (λ v. FULL ≤ vec_capacity v) to.items _ e (All-set (λ v. FULL ≤ vec_capacity v) parts.items i d (omega (arith, here)) (s.wide before));
          empty = s.empty;
          some = λ f. let some = s.some f in omega (arith, len, some);
          room = omega (arith, len, s.room);
          few = omega (arith, len, s.few);
        }

    -- a full chunk became two, and a free chunk fewer is there
    pub sound-split : (to less : Vec (Vec A Z) Z) (m : ℕ) (low high was : Vec A Z) (whole : List A) → to.items ≡ insert (set parts.items i low) (i + 1) high → vec_capacity parts ≤ vec_capacity to → free.items ≡ less.items ++ was ∷ [] → AreHalves low high whole → m ≡ length (flat (item_lists to.items)) → IsSound to less m
    sound-split to less m low high was whole e cap fewer h count =
        let set_len = length-set parts.items i low in
        let len : length to.items ≡ length parts.items + 1 = ap length e ∙ length-insert (set parts.items i low) (i + 1) high (omega (arith, set_len)) ∙ ap (λ k. k + 1) set_len in
        let free_len : length free.items ≡ length less.items + 1 = ap length fewer ∙ length_last less.items was in
        let many : 1 < length parts.items + length free.items = omega (arith, len, free_len) in
        record {
          count = count;
          filled = subst (λ vs. All (λ v. 0 < vec_len v) (drop 1 vs)) (sym (e ∙ ap (λ k. insert (set parts.items i low) k high) (add-one i)))
              (rest-insert (λ v. 0 < vec_len v) (set parts.items i low) i high (omega (arith, set_len)) (rest-set (λ v. 0 < vec_len v) parts.items i low s.filled (λ _. omega (arith, h.low_len.0))) (omega (arith, h.high_len.0)));
          fits = All-same (λ v. vec_len v ≤ FULL) to.items _ e (all-insert (λ v. vec_len v ≤ FULL) _ (i + 1) high (All-set (λ v. vec_len v ≤ FULL) parts.items i low h.low_len.1 s.fits) h.high_len.1);
          wide = λ _. All-same (λ v. FULL ≤ vec_capacity v) to.items _ e (all-insert (λ v. FULL ≤ vec_capacity v) _ (i + 1) high (All-set (λ v. FULL ≤ vec_capacity v) parts.items i low h.wide.0 (s.wide many)) h.wide.1);
          empty = fewer_free less.items was (subst (All IsFree) fewer s.empty);
          some = λ _. omega (arith, len);
          room = omega (arith, len, free_len, s.room);
          few = omega (arith, len, free_len, s.few);
        }
      where
        length_last : {V : Type 0} (vs : List V) (v : V) → length (vs ++ v ∷ []) ≡ length vs + 1
        length_last [] v = refl
        length_last (w ∷ vs) v = let e = length_last vs v in omega (arith, e)

        fewer_free : (vs : List (Vec A Z)) (v : Vec A Z) → All IsFree (vs ++ v ∷ []) → All IsFree vs
        fewer_free vs v h k d lt = let e = get_or_front vs (v ∷ []) k d lt in subst IsFree e (h k d (omega (arith, length_last vs v, lt)))
          where
            get_or_front : (xs ys : List (Vec A Z)) (k : ℕ) (d : Vec A Z) → k < length xs → get_or (xs ++ ys) k d ≡ get_or xs k d
            get_or_front [] ys k d lt = absurd (omega arith)
            get_or_front (x ∷ xs) ys zero d lt = refl
            get_or_front (x ∷ xs) ys (suc k) d lt = get_or_front xs ys k d (omega arith)

    -- a chunk went that was emptied, and may be free
    pub sound-without : (to more : Vec (Vec A Z) Z) (m : ℕ) (was d : Vec A Z) → was ≡ get_or parts.items i was → 0 < i → vec_len d ≡ 0 → vec_capacity was ≤ vec_capacity d → to.items ≡ remove parts.items i → vec_capacity parts ≤ vec_capacity to → HasMore free.items more.items d → m ≡ length (flat (item_lists to.items)) → IsSound to more m
    sound-without to more m was d is some none grows e cap freed count =
        let len : length to.items + 1 ≡ length parts.items = ap (λ l. length l + 1) e ∙ length-remove parts.items i lt in
        let many : 1 < length parts.items + length free.items = omega arith in
        let here = wide_at was is many in
        let free_len = more_len freed in
        record {
          count = count;
          filled = subst (λ vs. All (λ v. 0 < vec_len v) (drop 1 vs)) (sym e) (rest-remove (λ v. 0 < vec_len v) parts.items i some s.filled);
          fits = All-same (λ v. vec_len v ≤ FULL) to.items _ e (all-remove (λ v. vec_len v ≤ FULL) parts.items i s.fits);
          wide = λ _. All-same (λ v. FULL ≤ vec_capacity v) to.items _ e (all-remove (λ v. FULL ≤ vec_capacity v) parts.items i (s.wide many));
          empty = more_free (none, omega (arith, here, grows)) freed;
          some = λ _. omega (arith, len);
          room = omega (arith, len, free_len, s.room);
          few = omega (arith, len, free_len, s.few);
        }
      where
        length_last : {V : Type 0} (vs : List V) (v : V) → length (vs ++ v ∷ []) ≡ length vs + 1
        length_last [] v = refl
        length_last (w ∷ vs) v = let e = length_last vs v in omega (arith, e)

        more_len : HasMore free.items more.items d → length more.items ≤ length free.items + 1
        more_len (inl e) = let n = ap length e ∙ length_last free.items d in omega (arith, n)
        more_len (inr e) = let n = ap length e in omega (arith, n)

        more_free : IsFree d → HasMore free.items more.items d → All IsFree more.items
        more_free h (inl e) = All-same IsFree more.items _ e (All-push IsFree free.items d s.empty h)
        more_free h (inr e) = All-same IsFree more.items _ e s.empty
