-- Room for puts: what an edit of one chunk leaves of it.
use Rattle.std.proofs.Common.{◌≡◌, ℕ, zero, suc, ◌+◌, ◌-◌, ◌/◌, ◌<◌, ◌≤◌, List, [], ◌∷◌, length, get_or, set, take, drop, min, refl, sym, ap, subst, ◌∙◌, arith, vec_len, vec_capacity}
use Rattle.std.specs.declared.vec.Vec.{Vec}
use Rattle.std.specs.List.{All, insert, remove}
use Rattle.std.proofs.lemmas.List.{length-set, get_or-set_same, set-set, set-get_or}
use Rattle.std.proofs.lemmas.List.Elements.{All-set, All-append, All-take, All-drop, All-cons}
use Rattle.std.proofs.lemmas.List.Sums.{sum_by-set, sum_by-insert, sum_by-remove, sum_by-le}
use Rattle.df_colls.specs.declared.chunks.TheConstants.{FULL, HALF}
use Rattle.df_colls.specs.Parts.{alone, spare_of}

-- ---- facts about each element

module _ {V : Type 0} (P : V → Type 0) where
  pub all-insert : (vs : List V) (i : ℕ) (v : V) → All P vs → P v → All P (insert vs i v)
  all-insert vs i v h p = All-append P (take i vs) (v ∷ drop i vs) (All-take P i vs h) (All-cons P v (drop i vs) p (All-drop P i vs h))

  pub all-remove : (vs : List V) (i : ℕ) → All P vs → All P (remove vs i)
  all-remove vs i h = All-append P (take i vs) (drop (suc i) vs) (All-take P i vs h) (All-drop P (suc i) vs h)

  -- behind the first
  pub rest-set : (vs : List V) (i : ℕ) (v : V) → All P (drop 1 vs) → (0 < i → P v) → All P (drop 1 (set vs i v))
  rest-set [] i v h p = h
  rest-set (w ∷ vs) zero v h p = h
  rest-set (w ∷ vs) (suc i) v h p = All-set P vs i v (p (omega arith)) h

  pub rest-insert : (vs : List V) (i : ℕ) (v : V) → 0 < length vs → All P (drop 1 vs) → P v → All P (drop 1 (insert vs (suc i) v))
  rest-insert [] i v some h p = absurd (omega arith)
  rest-insert (w ∷ vs) i v some h p = all-insert vs i v h p

  pub rest-remove : (vs : List V) (i : ℕ) → 0 < i → All P (drop 1 vs) → All P (drop 1 (remove vs i))
  rest-remove vs zero some h = absurd (omega arith)
  rest-remove [] (suc i) some h = h
  rest-remove (w ∷ vs) (suc i) some h = all-remove vs i h

module _ {A Z : Type 0} where
  -- ---- the chunk that stands alone

  pub alone-set : (vs : List (Vec A Z)) (i : ℕ) (c d : Vec A Z) → i < length vs → c ≡ get_or vs i c → vec_capacity c ≤ vec_capacity d → vec_len d ≤ vec_len c + 1 → alone vs ≤ alone (set vs i d) + 1
  alone-set [] i c d lt is cap len = absurd (omega arith)
  alone-set (v ∷ []) zero c d lt is cap len = subst (λ w. min (vec_capacity w) FULL - vec_len w ≤ min (vec_capacity d) FULL - vec_len d + 1) is (omega arith)
  alone-set (v ∷ []) (suc i) c d lt is cap len = absurd (omega arith)
  alone-set (v ∷ w ∷ vs) zero c d lt is cap len = omega arith
  alone-set (v ∷ w ∷ vs) (suc zero) c d lt is cap len = omega arith
  alone-set (v ∷ w ∷ vs) (suc (suc i)) c d lt is cap len = omega arith

  pub alone-less : (vs : List (Vec A Z)) (i : ℕ) (c d : Vec A Z) → i < length vs → c ≡ get_or vs i c → vec_capacity c ≤ vec_capacity d → vec_len d ≤ vec_len c → alone vs ≤ alone (set vs i d)
  alone-less [] i c d lt is cap len = absurd (omega arith)
  alone-less (v ∷ []) zero c d lt is cap len = subst (λ w. min (vec_capacity w) FULL - vec_len w ≤ min (vec_capacity d) FULL - vec_len d) is (omega arith)
  alone-less (v ∷ []) (suc i) c d lt is cap len = absurd (omega arith)
  alone-less (v ∷ w ∷ vs) zero c d lt is cap len = omega arith
  alone-less (v ∷ w ∷ vs) (suc zero) c d lt is cap len = omega arith
  alone-less (v ∷ w ∷ vs) (suc (suc i)) c d lt is cap len = omega arith

  pub alone_many : (vs : List (Vec A Z)) → 1 < length vs → alone vs ≡ 0
  alone_many [] lt = refl
  alone_many (v ∷ []) lt = absurd (omega arith)
  alone_many (v ∷ w ∷ vs) lt = refl

  pub alone_full : (vs : List (Vec A Z)) (i : ℕ) (c : Vec A Z) → i < length vs → c ≡ get_or vs i c → FULL ≤ vec_len c → alone vs ≡ 0
  alone_full [] i c lt is len = refl
  alone_full (v ∷ []) zero c lt is len = subst (λ w. min (vec_capacity w) FULL - vec_len w ≡ 0) is (omega arith)
  alone_full (v ∷ []) (suc i) c lt is len = absurd (omega arith)
  alone_full (v ∷ w ∷ vs) i c lt is len = refl

  -- ---- room, after one chunk has changed

  pub spare-set : (vs free : List (Vec A Z)) (i : ℕ) (c d : Vec A Z) → i < length vs → c ≡ get_or vs i c → vec_capacity c ≤ vec_capacity d → vec_len d ≤ vec_len c + 1 → spare_of vs free ≤ spare_of (set vs i d) free + 1
  spare-set vs free i c d lt is cap len =
      let single = alone-set vs i c d lt is cap len in
      let sums = sum_by-set (λ v. vec_len v - HALF) vs i d c lt in
      let here : vec_len c - HALF ≡ vec_len (get_or vs i c) - HALF = ap (λ v. vec_len v - HALF) is in
      omega (arith, sums, here, single)

  pub spare-less : (vs free : List (Vec A Z)) (i : ℕ) (c d : Vec A Z) → i < length vs → c ≡ get_or vs i c → vec_capacity c ≤ vec_capacity d → vec_len d ≤ vec_len c → spare_of vs free ≤ spare_of (set vs i d) free
  spare-less vs free i c d lt is cap len =
      let single = alone-less vs i c d lt is cap len in
      let sums = sum_by-set (λ v. vec_len v - HALF) vs i d c lt in
      let here : vec_len c - HALF ≡ vec_len (get_or vs i c) - HALF = ap (λ v. vec_len v - HALF) is in
      omega (arith, sums, here, single)

  pub spare-split : (vs free less : List (Vec A Z)) (i : ℕ) (c low high : Vec A Z) → i < length vs → c ≡ get_or vs i c → vec_len c ≡ FULL → length free ≡ length less + 1 → vec_len low + vec_len high ≡ FULL + 1 → HALF ≤ vec_len low → HALF ≤ vec_len high → spare_of vs free ≤ spare_of (insert (set vs i low) (i + 1) high) less + 1
  spare-split vs free less i c low high lt is full fewer lens l h =
      let single = alone_full vs i c lt is (omega arith) in
      let sums = sum_by-set (λ v. vec_len v - HALF) vs i low c lt in
      let here : vec_len c - HALF ≡ vec_len (get_or vs i c) - HALF = ap (λ v. vec_len v - HALF) is in
      let more = sum_by-insert (λ v. vec_len v - HALF) (set vs i low) (i + 1) high in
      omega (arith, sums, here, single, more)

  pub spare-without : (vs free more : List (Vec A Z)) (i : ℕ) (c : Vec A Z) → 0 < i → i < length vs → length free ≤ length more → spare_of vs free ≤ spare_of (remove vs i) more
  spare-without vs free more i c some lt le =
      let single = alone_many vs (omega arith) in
      let sums = sum_by-remove (λ v. vec_len v - HALF) vs i c lt in
      omega (arith, sums, single)

  -- a put needs a chunk
  pub some_chunk : (vs free : List (Vec A Z)) → (0 < length free → 0 < length vs) → 0 < spare_of vs free → 0 < length vs
  some_chunk [] free some room = some (omega arith)
  some_chunk (v ∷ vs) free some room = omega arith

  -- a full chunk can be split
  pub some_free : (vs free : List (Vec A Z)) (i : ℕ) (c : Vec A Z) → i < length vs → c ≡ get_or vs i c → FULL ≤ vec_len c → 0 < spare_of vs free → 0 < length free
  some_free vs free i c lt is full room = let single = alone_full vs i c lt is full in omega (arith, single)

  -- a chunk that isn't full has room
  pub some_room : (vs free : List (Vec A Z)) (i : ℕ) (c : Vec A Z) → i < length vs → c ≡ get_or vs i c → vec_len c < FULL → 0 < spare_of vs free → (1 < length vs + length free → All (λ v. FULL ≤ vec_capacity v) vs) → vec_len c < vec_capacity c
  some_room [] free i c lt is len room wide = absurd (omega arith)
  some_room (v ∷ []) [] zero c lt is len room wide = subst (λ w. vec_len w < vec_capacity w) (sym is) (omega arith)
  some_room (v ∷ []) [] (suc i) c lt is len room wide = absurd (omega arith)
  some_room (v ∷ []) (f ∷ free) i c lt is len room wide =
      let h : FULL ≤ vec_capacity (get_or (v ∷ []) i c) = wide (omega arith) i c lt in
      let w : FULL ≤ vec_capacity c = subst (λ u. FULL ≤ vec_capacity u) (sym is) h in
      omega (arith, w)
  some_room (v ∷ u ∷ vs) free i c lt is len room wide =
      let h : FULL ≤ vec_capacity (get_or (v ∷ u ∷ vs) i c) = wide (omega arith) i c lt in
      let w : FULL ≤ vec_capacity c = subst (λ t. FULL ≤ vec_capacity t) (sym is) h in
      omega (arith, w)

  pub spare-same : (vs free : List (Vec A Z)) (i : ℕ) (c d : Vec A Z) → i < length vs → c ≡ get_or vs i c → vec_capacity c ≡ vec_capacity d → vec_len d ≡ vec_len c → spare_of (set vs i d) free ≡ spare_of vs free
  spare-same vs free i c d lt is cap len =
      let before = spare-less vs free i c d lt is (omega (arith, cap)) (omega (arith, len)) in
      let there : d ≡ get_or (set vs i d) i d = sym (get_or-set_same vs i d d lt) in
      let after = spare-less (set vs i d) free i d c (omega (arith, length-set vs i d)) there (omega (arith, cap)) (omega (arith, len)) in
      let again : set (set vs i d) i c ≡ vs = set-set vs i d c ∙ ap (set vs i) is ∙ set-get_or vs i c in
      omega (arith, before, subst (λ us. spare_of (set vs i d) free ≤ spare_of us free) again after)

  -- so many free chunks that each put finds room, or that half a chunk's worth does in each
  pub enough : (vs free : List (Vec A Z)) (count wanted : ℕ) → All (λ v. vec_len v ≤ FULL) vs → wanted ≡ min count (length vs + count / HALF + 1) → wanted ≤ length free → count ≤ spare_of vs free
  enough vs free count wanted fits is le =
      let over : All (λ v. vec_len v - HALF ≤ HALF) vs = λ k d lt. let l = fits k d lt in omega (arith, l) in
      let most = sum_by-le (λ v. vec_len v - HALF) HALF vs over in
      omega (arith, is, most)
