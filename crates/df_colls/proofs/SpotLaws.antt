-- The lengths of chunks, their sums, and what a change of the chunks makes of them.
use Rattle.std.proofs.Common.{◌≡◌, ℕ, zero, suc, ◌+◌, ◌*◌, ◌<◌, ◌≤◌, List, [], ◌∷◌, ◌++◌, length, get_or, set, take, drop, sum, refl, sym, ap, ◌∙◌, arith, vec_len}
use Rattle.std.specs.declared.vec.Vec.{Vec}
use Rattle.std.specs.List.{All, insert, remove}
use Rattle.std.proofs.lemmas.List.{length-set, length-map, length-append, map-set, take-map, get_or-set_same, set-get_or, drop-drop, drop_at, drop-append-le}
use Rattle.std.proofs.lemmas.List.Edits.{get_or-insert_at, get_or-insert_below}
use Rattle.std.proofs.lemmas.List.Elements.{All-map, All-set, All-same}
use Rattle.std.proofs.lemmas.List.Sums.{sum_by-cons, sum_by-le}
use Rattle.df_colls.specs.declared.chunks.TheConstants.{FULL, MOST}
use Rattle.df_colls.specs.declared.sums.Spot.{Spot}
use Rattle.df_colls.specs.Cuts.{flat}
use Rattle.df_colls.specs.Parts.{item_lists}
use Rattle.df_colls.specs.Runs.{IsFront}
use Rattle.df_colls.specs.Sums.{lens_of, IsSpot}
use Rattle.df_colls.proofs.CutLaws.{parted}
use Rattle.df_colls.proofs.RoomLaws.{all-insert}
use Rattle.df_colls.proofs.PartLaws.{list_at, map-insert, map-remove}

module _ {A Z : Type 0} where
  -- ---- lengths and their sums

  len_at : (vs : List (Vec A Z)) (i : ℕ) (d : Vec A Z) → i < length vs → d ≡ get_or vs i d → get_or (lens_of vs) i 0 ≡ vec_len d
  len_at [] i d lt is = absurd (omega arith)
  len_at (v ∷ vs) zero d lt is = ap (λ w. vec_len w) (sym is)
  len_at (v ∷ vs) (suc i) d lt is = len_at vs i d (omega arith) is

  pub all_items : (vs : List (Vec A Z)) → sum (lens_of vs) ≡ length (flat (item_lists vs))
  all_items [] = refl
  all_items (v ∷ vs) =
      let more : sum (vec_len v ∷ lens_of vs) ≡ vec_len v + sum (lens_of vs) = sum_by-cons (λ x. x) (vec_len v) (lens_of vs) in
      let rest = all_items vs in
      let both = length-append v.items (flat (item_lists vs)) in
      omega (arith, more, rest, both, v.ok.0)

  items_before : (vs : List (Vec A Z)) (i : ℕ) → sum (take i (lens_of vs)) ≡ length (flat (take i (item_lists vs)))
  items_before vs i = ap sum (take-map (λ c. vec_len c) i vs) ∙ all_items (take i vs) ∙ ap (λ l. length (flat l)) (sym (take-map (λ c. c.items) i vs))

  pub few_lens : (vs : List (Vec A Z)) (l : List ℕ) → All (λ c. vec_len c ≤ FULL) vs → length vs ≤ MOST → l ≡ lens_of vs → sum l ≤ MOST * FULL
  few_lens vs l fits few e =
      let short : All (λ x. x ≤ FULL) (lens_of vs) = All-map (λ x. x ≤ FULL) (λ c. vec_len c) vs fits in
      let most = sum_by-le (λ x. x) FULL (lens_of vs) short in
      omega (arith, ap sum e, most, length-map vs (λ c. vec_len c), few)

  -- ---- a change of the chunks is one of the lengths

  -- a chunk became another
  pub relearned : (vs us : List (Vec A Z)) (i : ℕ) (d : Vec A Z) (old new : List ℕ) → i < length vs → us ≡ set vs i d → old ≡ lens_of vs → new ≡ set old i (get_or (lens_of us) i 0) → new ≡ lens_of us
  relearned vs us i d old new lt e o n =
      let all : lens_of us ≡ set (lens_of vs) i (vec_len d) = ap lens_of e ∙ map-set (λ c. vec_len c) vs i d in
      let here : get_or (lens_of us) i 0 ≡ vec_len d = ap (λ l. get_or l i 0) all ∙ get_or-set_same (lens_of vs) i (vec_len d) 0 (omega (arith, lt, length-map vs (λ c. vec_len c))) in
      n ∙ ap (λ l. set l i (get_or (lens_of us) i 0)) o ∙ ap (set (lens_of vs) i) here ∙ sym all

  -- a chunk came
  pub came : (vs us : List (Vec A Z)) (i : ℕ) (d : Vec A Z) (old new : List ℕ) → i ≤ length vs → us ≡ insert vs i d → old ≡ lens_of vs → new ≡ insert old i (get_or (lens_of us) i 0) → new ≡ lens_of us
  came vs us i d old new le e o n =
      let all : lens_of us ≡ insert (lens_of vs) i (vec_len d) = ap lens_of e ∙ map-insert (λ c. vec_len c) vs i d in
      let here : get_or (lens_of us) i 0 ≡ vec_len d = ap (λ l. get_or l i 0) all ∙ get_or-insert_at (lens_of vs) i (vec_len d) 0 (omega (arith, le, length-map vs (λ c. vec_len c))) in
      n ∙ ap (λ l. insert l i (get_or (lens_of us) i 0)) o ∙ ap (insert (lens_of vs) i) here ∙ sym all

  -- a chunk became two
  pub parted_lens : (vs us : List (Vec A Z)) (i : ℕ) (low high : Vec A Z) (old new : List ℕ) → i < length vs → us ≡ insert (set vs i low) (i + 1) high → old ≡ lens_of vs → new ≡ set old i (get_or (lens_of us) i 0) → new ≡ lens_of (set vs i low)
  parted_lens vs us i low high old new lt e o n =
      let within : i < length (lens_of vs) = omega (arith, lt, length-map vs (λ c. vec_len c)) in
      let all : lens_of us ≡ insert (set (lens_of vs) i (vec_len low)) (i + 1) (vec_len high) = ap lens_of e ∙ map-insert (λ c. vec_len c) (set vs i low) (i + 1) high ∙ ap (λ l. insert l (i + 1) (vec_len high)) (map-set (λ c. vec_len c) vs i low) in
      let here : get_or (lens_of us) i 0 ≡ vec_len low = ap (λ l. get_or l i 0) all ∙ before (set (lens_of vs) i (vec_len low)) i (vec_len high) (omega (arith, within, length-set (lens_of vs) i (vec_len low))) ∙ get_or-set_same (lens_of vs) i (vec_len low) 0 within in
      n ∙ ap (λ l. set l i (get_or (lens_of us) i 0)) o ∙ ap (set (lens_of vs) i) here ∙ sym (map-set (λ c. vec_len c) vs i low)
    where
      before : (l : List ℕ) (i x : ℕ) → i < length l → get_or (insert l (i + 1) x) i 0 ≡ get_or l i 0
      before l i x lt = get_or-insert_below l (i + 1) x 0 i (omega arith) (omega (arith, lt))

  pub parted_short : (vs us : List (Vec A Z)) (i : ℕ) (low high : Vec A Z) → us ≡ insert (set vs i low) (i + 1) high → All (λ c. vec_len c ≤ FULL) vs → vec_len low ≤ FULL → vec_len high ≤ FULL → All (λ c. vec_len c ≤ FULL) us
  parted_short vs us i low high e h l r =
      All-same (λ c. vec_len c ≤ FULL) us _ e (all-insert (λ c. vec_len c ≤ FULL) (set vs i low) (i + 1) high (All-set (λ c. vec_len c ≤ FULL) vs i low l h) r)

  -- a chunk went
  pub went : (vs us : List (Vec A Z)) (i : ℕ) (old new : List ℕ) → us ≡ remove vs i → old ≡ lens_of vs → new ≡ remove old i → new ≡ lens_of us
  went vs us i old new e o n = n ∙ ap (λ l. remove l i) o ∙ sym (map-remove (λ c. vec_len c) vs i) ∙ ap lens_of (sym e)

  -- a chunk of the same length stands there
  pub same_lens : (vs : List (Vec A Z)) (i : ℕ) (c d : Vec A Z) → i < length vs → c ≡ get_or vs i c → vec_len d ≡ vec_len c → lens_of (set vs i d) ≡ lens_of vs
  same_lens vs i c d lt is e =
      map-set (λ w. vec_len w) vs i d ∙ ap (set (lens_of vs) i) (e ∙ sym (len_at vs i c lt is)) ∙ set-get_or (lens_of vs) i 0

  -- ---- where an item is

  module _ (vs : List (Vec A Z)) (n : ℕ) (s : Spot) (c : Vec A Z) (p : IsSpot (lens_of vs) n s) (is : c ≡ get_or vs s.leaf c) where
    spot_lt : s.leaf < length vs
    spot_lt = let lt = p.leaf in omega (arith, lt, length-map vs (λ v. vec_len v))

    pub spot_within : s.rest < vec_len c
    spot_within = let lt = p.rest in omega (arith, lt, len_at vs s.leaf c spot_lt is)

    pub spot_front : (run : List A) → run ≡ drop s.rest c.items → IsFront (drop n (flat (item_lists vs))) run
    spot_front run e =
        let ls = item_lists vs in
        let before = flat (take s.leaf ls) in
        let behind = flat (drop (suc s.leaf) ls) in
        let whole : flat ls ≡ before ++ (c.items ++ behind) = parted ls s.leaf (omega (arith, spot_lt, length-map vs (λ v. v.items))) ∙ ap (λ l. before ++ (l ++ behind)) (list_at vs s.leaf c spot_lt is) in
        let at : n ≡ length before + s.rest = sym p.item ∙ (let m = items_before vs s.leaf in omega (arith, m)) in (
          behind,
          ap (drop n) whole
              ∙ ap (λ k. drop k (before ++ (c.items ++ behind))) at
              ∙ sym (drop-drop s.rest (length before) (before ++ (c.items ++ behind)))
              ∙ ap (drop s.rest) (drop_at before (c.items ++ behind) (length before) refl)
              ∙ drop-append-le s.rest c.items behind (omega (arith, spot_within, c.ok.0))
              ∙ ap (λ l. l ++ behind) (sym e),
        )
