-- Levels of sums: a change of one length, a level made anew, and a search from the top.
use Rattle.std.proofs.Common.{◌≡◌, ℕ, zero, suc, ◌+◌, ◌-◌, ◌*◌, ◌/◌, ◌^◌, ◌<◌, ◌≤◌, inl, inr, List, [], ◌∷◌, ◌++◌, length, get_or, set, take, drop, sum, min, refl, sym, ap, subst, ◌∙◌, append_assoc, add-one, arith, vec_len, vec_capacity}
use Rattle.std.specs.declared.vec.Vec.{Vec}
use Rattle.std.specs.List.{All}
use Rattle.std.proofs.lemmas.Bool.{cases_lt}
use Rattle.std.proofs.lemmas.List.{length-set, length-map, length_push, take-take, drop-take, take_all, take-append-le, take-set-le, take_more_set, drop-set-lt, drop_more, get_or-set_other, get_or-set_same, take_rest, get_or_default, nil_from_length, map-set, take-set}
use Rattle.std.proofs.lemmas.List.Elements.{All-set}
use Rattle.std.proofs.lemmas.List.Sums.{sum_by-take-drop, sum_by-cons, sum_by_push, sum_by_more, sum_by-take-le, get_or-le-sum_by}
use Rattle.df_colls.specs.declared.sums.Spot.{Spot}
use Rattle.df_colls.specs.declared.sums.TheConstants.{WIDTH}
use Rattle.df_colls.specs.Cuts.{chunk_at}
use Rattle.df_colls.specs.Parts.{item_lists}
use Rattle.df_colls.specs.Sums.{lowest, IsAbove, IsTower, with_len, IsSpot, IsEmptyLevel}
use Rattle.df_colls.proofs.PartLaws.{list_at}

-- ---- sums of a front

sum-take-add : (n m : ℕ) (l : List ℕ) → sum (take (n + m) l) ≡ sum (take n l) + sum (take m (drop n l))
sum-take-add n m l =
    sym (sum_by-take-drop (λ x. x) (take (n + m) l) n)
    ∙ ap (λ t. sum t + sum (drop n (take (n + m) l))) (take-take n (n + m) l (omega arith))
    ∙ ap (λ t. sum (take n l) + sum t) (drop-take n m l)

sum-take-le : (a b : ℕ) (l : List ℕ) → a ≤ b → sum (take a l) ≤ sum (take b l)
sum-take-le a b l le = subst (λ t. sum t ≤ sum (take b l)) (take-take a b l le) (sum_by-take-le (λ x. x) (take b l) a)

sum-take-set : (l : List ℕ) (i j v : ℕ) → i < length l → i < j → sum (take j (set l i v)) + get_or l i 0 ≡ sum (take j l) + v
sum-take-set [] i j v lt le = absurd (omega arith)
sum-take-set (x ∷ l) i zero v lt le = absurd (omega arith)
sum-take-set (x ∷ l) zero (suc j) v lt le =
    let new : sum (v ∷ take j l) ≡ v + sum (take j l) = sum_by-cons (λ y. y) v (take j l) in
    let old : sum (x ∷ take j l) ≡ x + sum (take j l) = sum_by-cons (λ y. y) x (take j l) in
    omega (arith, new, old)
sum-take-set (x ∷ l) (suc i) (suc j) v lt le =
    let new : sum (x ∷ take j (set l i v)) ≡ x + sum (take j (set l i v)) = sum_by-cons (λ y. y) x (take j (set l i v)) in
    let old : sum (x ∷ take j l) ≡ x + sum (take j l) = sum_by-cons (λ y. y) x (take j l) in
    let rest = sum-take-set l i j v (omega arith) (omega arith) in
    omega (arith, new, old, rest)

-- where not all is before, there is a next one
pub before_end : (l : List ℕ) (k r : ℕ) → r + sum (take k l) < sum l → k < length l
before_end l k r lt = elim (cases_lt k (length l)) [ inl h ↦ h | inr h ↦ absurd (let e : sum (take k l) ≡ sum l = ap sum (take_all k l h) in omega (arith, e, lt)) ]

-- ---- a level is made anew

pub part_is : (l : List ℕ) (k m : ℕ) → m ≡ min (length (take (length l - k) (drop k l))) WIDTH → take m (take (length l - k) (drop k l)) ≡ take WIDTH (drop k l)
part_is l k m e = front (take (length l - k) (drop k l)) m e ∙ ap (take WIDTH) (take_rest l k)
  where
    front : (r : List ℕ) (m : ℕ) → m ≡ min (length r) WIDTH → take m r ≡ take WIDTH r
    front r m e = elim (cases_lt WIDTH (length r)) [
      | inl more ↦ let same : m ≡ WIDTH = omega (arith, e, more) in ap (λ n. take n r) same
      | inr less ↦ take_all m r (omega (arith, e, less)) ∙ sym (take_all WIDTH r less)
    ]

pub part_le : (l : List ℕ) (k m n : ℕ) → sum (take m (take n (drop k l))) ≤ sum l
part_le l k m n =
    let a = sum_by-take-le (λ x. x) (take n (drop k l)) m in
    let b = sum_by-take-le (λ x. x) (drop k l) n in
    let c = sum_by-take-drop (λ x. x) l k in
    omega (arith, a, b, c)

abbrev pub Front : ℕ → List ℕ → List ℕ → Type 0
Front k out l = (j : ℕ) → j ≤ k → sum (take j out) ≡ sum (take (j * WIDTH) l)

pub pushed : (l out : List ℕ) (k x : ℕ) → length out ≡ k → Front k out l → x ≡ sum (take WIDTH (drop (k * WIDTH) l)) → Front (k + 1) (out ++ x ∷ []) l
pushed l out k x len h is j le = elim (cases_lt k j) [
  | inr below ↦ ap sum (take-append-le j out (x ∷ []) (omega (arith, len, below))) ∙ h j below
  | inl above ↦
      let last : j ≡ k + 1 = omega (arith, above, le) in
      let here : sum out ≡ sum (take (k * WIDTH) l) = ap sum (sym (take_all k out (omega (arith, len)))) ∙ h k (omega arith) in
      let more : sum (take (k * WIDTH + WIDTH) l) ≡ sum (take (k * WIDTH) l) + sum (take WIDTH (drop (k * WIDTH) l)) = sum-take-add (k * WIDTH) WIDTH l in
      let width : k * WIDTH + WIDTH ≡ j * WIDTH = omega (arith, last) in
      ap sum (take_all j (out ++ x ∷ []) (omega (arith, length_push out x, len, last)))
      ∙ sum_by_push (λ y. y) out x
      ∙ (let e : sum out + x ≡ sum (take (k * WIDTH + WIDTH) l) = omega (arith, here, more, is) in e)
      ∙ ap (λ n. sum (take n l)) width
]

pub grouped : (l out : List ℕ) (k : ℕ) → length out ≡ k → k ≡ length l / WIDTH + 1 → Front k out l → IsAbove out l
grouped l out k len count h = record {
  len = len ∙ count;
  sums = λ j. elim (cases_lt k j) [
    | inr below ↦ h j below
    | inl above ↦
        ap sum (take_all j out (omega (arith, len, above)) ∙ sym (take_all k out (omega (arith, len))))
        ∙ h k (omega arith)
        ∙ ap sum (take_all (k * WIDTH) l (omega (arith, count)) ∙ sym (take_all (j * WIDTH) l (omega (arith, count, above))))
  ];
}

-- ---- sums of a level, and of the one below

pub sum_above : (u l : List ℕ) → IsAbove u l → sum u ≡ sum l
sum_above u l h =
    ap sum (sym (take_all (length u) u (omega arith)))
    ∙ h.sums (length u)
    ∙ ap sum (take_all (length u * WIDTH) l (omega (arith, h.len)))

-- a sum is no less than each number in it
holds : (u l : List ℕ) (k : ℕ) → IsAbove u l → k < length l → get_or l k 0 ≤ get_or u (k / WIDTH) 0
holds u l k h lt =
    let q = k / WIDTH in
    let within : q < length u = omega (arith, h.len) in
    let up = sum_by_more (λ x. x) u q 0 within in
    let here = sum_by_more (λ x. x) l k 0 lt in
    let low = sum-take-le (q * WIDTH) k l (omega arith) in
    let high = sum-take-le (k + 1) ((q + 1) * WIDTH) l (omega arith) in
    let a = h.sums q in
    let b = h.sums (q + 1) in
    omega (arith, up, here, low, high, a, b)

set_above : (u l : List ℕ) (k was len : ℕ) → IsAbove u l → k < length l → was ≤ get_or l k 0 → IsAbove (set u (k / WIDTH) (get_or u (k / WIDTH) 0 - was + len)) (set l k (get_or l k 0 - was + len))
set_above u l k was len h lt le =
    let q = k / WIDTH in
    let within : q < length u = omega (arith, h.len) in
    let room = holds u l k h lt in
    record {
      len = length-set u q (get_or u q 0 - was + len) ∙ h.len ∙ ap (λ n. n / WIDTH + 1) (sym (length-set l k (get_or l k 0 - was + len)));
      sums = λ j. elim (cases_lt q j) [
        | inr below ↦
            ap sum (take-set-le j u q (get_or u q 0 - was + len) below) ∙ h.sums j ∙ ap sum (sym (take-set-le (j * WIDTH) l k (get_or l k 0 - was + len) (omega (arith, below))))
        | inl above ↦
            let up = sum-take-set u q j (get_or u q 0 - was + len) within above in
            let down = sum-take-set l k (j * WIDTH) (get_or l k 0 - was + len) lt (omega (arith, above)) in
            let same = h.sums j in
            omega (arith, up, down, same, room, le)
      ];
    }

-- ---- a change of one length

pub changed : (ls : List (List ℕ)) (at was len : ℕ) → IsTower ls → at < length (lowest ls) → was ≤ get_or (lowest ls) at 0 → IsTower (with_len was len at ls)
changed [] at was len t lt le = tt
changed (l ∷ []) at was len t lt le = (tt, tt)
changed (l ∷ u ∷ us) at was len t lt le =
    let more = holds u l at t.0 lt in
    (set_above u l at was len t.0 lt le, changed (u ∷ us) (at / WIDTH) was len t.1 (omega (arith, t.0.len)) (omega (arith, more, le)))

-- each number on the path can be changed
abbrev pub Climb : ℕ → ℕ → ℕ → List (List ℕ) → Type 0
Climb was len at [] = Unit {0}
Climb was len at (l ∷ ls) = (at < length l) × (was ≤ get_or l at 0) × (get_or l at 0 + len < 2 ^ 64) × Climb was len (at / WIDTH) ls

pub climb : (ls : List (List ℕ)) (at was len : ℕ) → IsTower ls → at < length (lowest ls) → was ≤ get_or (lowest ls) at 0 → sum (lowest ls) + len < 2 ^ 64 → Climb was len at ls
climb [] at was len t lt le fits = tt
climb (l ∷ []) at was len t lt le fits = let most = get_or-le-sum_by (λ x. x) l at 0 lt in (lt, le, omega (arith, most, fits), tt)
climb (l ∷ u ∷ us) at was len t lt le fits =
    let most = get_or-le-sum_by (λ x. x) l at 0 lt in
    let more = holds u l at t.0 lt in
    let same = sum_above u l t.0 in
    (lt, le, omega (arith, most, fits), climb (u ∷ us) (at / WIDTH) was len t.1 (omega (arith, t.0.len)) (omega (arith, more, le)) (omega (arith, same, fits)))

pub climb_at : (ls : List (List ℕ)) (i at was len : ℕ) → i < length ls → Climb was len at (drop i ls) → (at < length (chunk_at ls i)) × (was ≤ get_or (chunk_at ls i) at 0) × (get_or (chunk_at ls i) at 0 + len < 2 ^ 64) × Climb was len (at / WIDTH) (drop (i + 1) ls)
climb_at ls i at was len lt h = subst (Climb was len at) (drop_more ls i [] lt) h

pub path_step : (ls whole : List (List ℕ)) (i at was len : ℕ) → i < length ls → take i ls ++ with_len was len at (drop i ls) ≡ whole
    → let n = set (chunk_at ls i) at (get_or (chunk_at ls i) at 0 - was + len) in take (i + 1) (set ls i n) ++ with_len was len (at / WIDTH) (drop (i + 1) (set ls i n)) ≡ whole
path_step ls whole i at was len lt e =
    let n : List ℕ = set (chunk_at ls i) at (get_or (chunk_at ls i) at 0 - was + len) in
    ap (λ t. t ++ with_len was len (at / WIDTH) (drop (i + 1) (set ls i n))) (take_more_set ls i n lt)
    ∙ ap (λ d. (take i ls ++ n ∷ []) ++ with_len was len (at / WIDTH) d) (drop-set-lt (i + 1) ls i n (omega arith))
    ∙ append_assoc (take i ls) (n ∷ []) (with_len was len (at / WIDTH) (drop (i + 1) ls))
    ∙ ap (λ d. take i ls ++ with_len was len at d) (sym (drop_more ls i [] lt))
    ∙ e

pub lowest_with : (ls : List (List ℕ)) (at was len : ℕ) → was ≡ get_or (lowest ls) at 0 → lowest (with_len was len at ls) ≡ set (lowest ls) at len
lowest_with [] at was len e = refl
lowest_with (l ∷ ls) at was len e = let v : get_or l at 0 - was + len ≡ len = omega (arith, e) in ap (set l at) v

module _ {Z : Type 0} (vs : List (Vec ℕ Z)) (i : ℕ) (c : Vec ℕ Z) (lt : i < length vs) (is : c ≡ get_or vs i c) where
  lists_lt : i < length (item_lists vs)
  lists_lt = omega (arith, lt, length-map vs (λ v. v.items))

  pub climb_level : (at was len : ℕ) → Climb was len at (drop i (item_lists vs)) → (at < vec_len c) × (was ≤ get_or c.items at 0) × (get_or c.items at 0 + len < 2 ^ 64)
  climb_level at was len h =
      let all = climb_at (item_lists vs) i at was len lists_lt h in
      let e = list_at vs i c lt is in
      let there = ap (λ l. get_or l at 0) e in
      (omega (arith, all.0, ap length e, c.ok.0), omega (arith, all.1, there), omega (arith, all.2, there))

  pub climb_next : (us : List (Vec ℕ Z)) (d : Vec ℕ Z) (at was len : ℕ) → us ≡ set vs i d → Climb was len at (drop i (item_lists vs)) → Climb was len (at / WIDTH) (drop (i + 1) (item_lists us))
  climb_next us d at was len e h =
      let same : drop (i + 1) (item_lists us) ≡ drop (i + 1) (item_lists vs) = ap (λ ws. drop (i + 1) (item_lists ws)) e ∙ ap (drop (i + 1)) (map-set (λ v. v.items) vs i d) ∙ drop-set-lt (i + 1) (item_lists vs) i d.items (omega arith) in
      subst (Climb was len (at / WIDTH)) (sym same) (climb_at (item_lists vs) i at was len lists_lt h).3

  pub level_step : (us : List (Vec ℕ Z)) (whole : List (List ℕ)) (d : Vec ℕ Z) (at was len x : ℕ) → x ≡ get_or c.items at 0 → d.items ≡ set c.items at (x - was + len) → us ≡ set vs i d → take i (item_lists vs) ++ with_len was len at (drop i (item_lists vs)) ≡ whole
      → take (i + 1) (item_lists us) ++ with_len was len (at / WIDTH) (drop (i + 1) (item_lists us)) ≡ whole
  level_step us whole d at was len x xe de e h =
      let ls = item_lists vs in
      let there = list_at vs i c lt is in
      let new : d.items ≡ set (chunk_at ls i) at (get_or (chunk_at ls i) at 0 - was + len) = de ∙ ap (λ y. set c.items at (y - was + len)) xe ∙ ap (λ l. set l at (get_or l at 0 - was + len)) (sym there) in
      let all : item_lists us ≡ set ls i (set (chunk_at ls i) at (get_or (chunk_at ls i) at 0 - was + len)) = ap item_lists e ∙ map-set (λ v. v.items) vs i d ∙ ap (set ls i) new in
      ap (λ ws. take (i + 1) ws ++ with_len was len (at / WIDTH) (drop (i + 1) ws)) all ∙ path_step ls whole i at was len lists_lt h

-- ---- levels made anew, from the lowest up

pub same_sum : (ls : List (List ℕ)) (i : ℕ) → IsTower ls → i < length ls → sum (chunk_at ls i) ≡ sum (lowest ls)
same_sum [] i t lt = absurd (omega arith)
same_sum (l ∷ ls) zero t lt = refl
same_sum (l ∷ []) (suc i) t lt = absurd (omega arith)
same_sum (l ∷ u ∷ us) (suc i) t lt = same_sum (u ∷ us) i t.1 (omega arith) ∙ sum_above u l t.0

pub above_at : (ls : List (List ℕ)) (i : ℕ) → IsTower ls → suc i < length ls → IsAbove (chunk_at ls (suc i)) (chunk_at ls i)
above_at [] i t lt = absurd (omega arith)
above_at (l ∷ []) i t lt = absurd (omega arith)
above_at (l ∷ u ∷ us) zero t lt = t.0
above_at (l ∷ u ∷ us) (suc i) t lt = above_at (u ∷ us) i t.1 (omega arith)

tower_more : (ls : List (List ℕ)) (i : ℕ) → suc i < length ls → IsTower (take (suc i) ls) → IsAbove (chunk_at ls (suc i)) (chunk_at ls i) → IsTower (take (suc (suc i)) ls)
tower_more [] i lt t h = absurd (omega arith)
tower_more (l ∷ []) i lt t h = absurd (omega arith)
tower_more (l ∷ u ∷ us) zero lt t h = (h, (tt, tt))
tower_more (l ∷ u ∷ us) (suc i) lt t h = (t.0, tower_more (u ∷ us) i (omega arith) t.1 h)

pub first_tower : (ls : List (List ℕ)) → IsTower (take 1 ls)
first_tower [] = tt
first_tower (l ∷ ls) = (tt, tt)

lowest-set : (ls : List (List ℕ)) (i : ℕ) (n : List ℕ) → 0 < i → lowest (set ls i n) ≡ lowest ls
lowest-set [] i n some = refl
lowest-set (l ∷ ls) zero n some = absurd (omega arith)
lowest-set (l ∷ ls) (suc i) n some = refl

lowest_at : (ls : List (List ℕ)) → chunk_at ls 0 ≡ lowest ls
lowest_at [] = refl
lowest_at (l ∷ ls) = refl

-- levels of which the first i are sums each of the one before it
pub record Grouped {Z : Type 0} (vs : List (Vec ℕ Z)) (i room : ℕ) (lens : List ℕ) : Type 0 where
  pub some : 0 < room
  pub tower : IsTower (take i (item_lists vs))
  pub same : lowest (item_lists vs) ≡ lens
  pub wide : All (λ v. room ≤ vec_capacity v) vs
  pub within : length (chunk_at (item_lists vs) (i - 1)) ≤ room
  pub fits : sum (chunk_at (item_lists vs) (i - 1)) < 2 ^ 64

module _ {Z : Type 0} where
  pub grouped_none : (vs : List (Vec ℕ Z)) (room : ℕ) → 0 < room → All (λ v. room ≤ vec_capacity v) vs → length (lowest (item_lists vs)) ≤ room → sum (lowest (item_lists vs)) < 2 ^ 64 → Grouped vs 1 room (lowest (item_lists vs))
  grouped_none vs room some wide within fits = record {
    some = some;
    tower = first_tower (item_lists vs);
    same = refl;
    wide = wide;
    within = subst (λ l. length l ≤ room) (sym (lowest_at (item_lists vs))) within;
    fits = subst (λ l. sum l < 2 ^ 64) (sym (lowest_at (item_lists vs))) fits;
  }

  pub grouped_step : (vs us : List (Vec ℕ Z)) (i room : ℕ) (lens : List ℕ) (b : Vec ℕ Z) → Grouped vs i room lens → 0 < i → i < length vs → us ≡ set vs i b → IsAbove b.items (chunk_at (item_lists vs) (i - 1)) → room ≤ vec_capacity b → Grouped us (i + 1) room lens
  grouped_step vs us i room lens b g some lt e h cap =
      let ls = item_lists vs in
      let back : suc (i - 1) ≡ i = omega (arith, some) in
      let all : item_lists us ≡ set ls i b.items = ap item_lists e ∙ map-set (λ v. v.items) vs i b in
      let within : i < length ls = omega (arith, lt, length-map vs (λ v. v.items)) in
      let here : chunk_at (item_lists us) i ≡ b.items = ap (λ l. get_or l i []) all ∙ get_or-set_same ls i b.items [] within in
      let short : length b.items ≤ room = omega (arith, h.len, g.within, g.some) in
      let same = sum_above b.items (chunk_at ls (i - 1)) h in
      let whole : IsTower (take (suc i) (set ls i b.items)) = more ls i b.items some within g.tower h in
      let at : (i + 1) - 1 ≡ i = omega arith in
      record {
        some = g.some;
        tower = subst (λ l. IsTower (take (i + 1) l)) (sym all) (subst (λ n. IsTower (take n (set ls i b.items))) (sym (add-one i)) whole);
        same = ap lowest all ∙ lowest-set ls i b.items some ∙ g.same;
        wide = subst (All (λ v. room ≤ vec_capacity v)) (sym e) (All-set (λ v. room ≤ vec_capacity v) vs i b cap g.wide);
        within = subst (λ n. length (chunk_at (item_lists us) n) ≤ room) (sym at) (subst (λ l. length l ≤ room) (sym here) short);
        fits = subst (λ n. sum (chunk_at (item_lists us) n) < 2 ^ 64) (sym at) (subst (λ l. sum l < 2 ^ 64) (sym here) (omega (arith, same, g.fits)));
      }
    where
      more : (ls : List (List ℕ)) (i : ℕ) (n : List ℕ) → 0 < i → i < length ls → IsTower (take i ls) → IsAbove n (chunk_at ls (i - 1)) → IsTower (take (suc i) (set ls i n))
      more ls zero n some lt t h = absurd (omega arith)
      more ls (suc j) n some lt t h =
          let before : (suc j) - 1 ≡ j = omega arith in
          let other : chunk_at (set ls (suc j) n) j ≡ chunk_at ls j = get_or-set_other ls (suc j) j n [] (omega arith) in
          let there : chunk_at (set ls (suc j) n) (suc j) ≡ n = get_or-set_same ls (suc j) n [] lt in
          let low : IsAbove n (chunk_at ls j) = subst (λ k. IsAbove n (chunk_at ls k)) before h in
          tower_more (set ls (suc j) n) j (omega (arith, lt, length-set ls (suc j) n)) (subst IsTower (sym (take-set ls (suc j) n)) t)
          (subst (λ m. IsAbove m (chunk_at (set ls (suc j) n) j)) (sym there) (subst (IsAbove n) (sym other) low))

  -- what stands in the lowest level
  pub lowest_is : (vs : List (Vec ℕ Z)) (c : Vec ℕ Z) (k x : ℕ) → k < length (lowest (item_lists vs)) → c ≡ get_or vs 0 c → x ≡ get_or c.items k x → x ≡ get_or (lowest (item_lists vs)) k 0
  lowest_is [] c k x lt is e = absurd (omega arith)
  lowest_is (v ∷ vs) c k x lt is e = e ∙ ap (λ w. get_or w.items k x) is ∙ get_or_default v.items k x 0 lt

  -- the level below one that is taken away
  pub below_is : (vs : List (Vec ℕ Z)) (i : ℕ) (a c : Vec ℕ Z) → 0 < i → i < length vs → c ≡ get_or (set vs i a) (i - 1) c → c.items ≡ chunk_at (item_lists vs) (i - 1)
  below_is vs i a c some lt is =
      sym (list_at (set vs i a) (i - 1) c (omega (arith, lt, length-set vs i a)) is)
      ∙ ap (λ ls. chunk_at ls (i - 1)) (map-set (λ v. v.items) vs i a)
      ∙ get_or-set_other (item_lists vs) i (i - 1) a.items [] (omega (arith, some))

  pub begun : (vs : List (Vec ℕ Z)) (room : ℕ) (c d : Vec ℕ Z) (lens : List ℕ) → All (IsEmptyLevel room) vs → 0 < length vs → c ≡ get_or vs 0 c → d.items ≡ c.items ++ lens → lowest (item_lists (set vs 0 d)) ≡ lens
  begun [] room c d lens h some is e = absurd (omega arith)
  begun (v ∷ vs) room c d lens h some is e =
      let none : vec_len c ≡ 0 = subst (λ w. vec_len w ≡ 0) (sym is) (h 0 c (omega arith)).0 in
      e ∙ ap (λ l. l ++ lens) (nil_from_length c.items (omega (arith, none, c.ok.0)))

  pub begun_wide : (vs : List (Vec ℕ Z)) (room : ℕ) (c d : Vec ℕ Z) → All (IsEmptyLevel room) vs → 0 < length vs → c ≡ get_or vs 0 c → vec_capacity c ≤ vec_capacity d → All (λ v. room ≤ vec_capacity v) (set vs 0 d)
  begun_wide vs room c d h some is le =
      let here : room ≤ vec_capacity c = subst (λ w. room ≤ vec_capacity w) (sym is) (h 0 c some).1 in
      All-set (λ v. room ≤ vec_capacity v) vs 0 d (omega (arith, here, le)) (λ k e lt. (h k e lt).1)

-- ---- a search

-- from this number of a level on
pub record Starts (l : List ℕ) (n leaf left : ℕ) : Type 0 where
  pub from : leaf ≤ length l
  pub item : left + sum (take leaf l) ≡ n

pub start : (l : List ℕ) (n : ℕ) → Starts l n 0 n
start l n = record { from = omega arith; item = omega arith }

pub down : (u l : List ℕ) (n : ℕ) (s : Spot) → IsAbove u l → IsSpot u n s → Starts l n (s.leaf * WIDTH) s.rest
down u l n s h p = record {
  from = let lt = p.leaf in omega (arith, h.len, lt);
  item = ap (λ m. s.rest + m) (sym (h.sums s.leaf)) ∙ p.item;
}

module _ {Z : Type 0} where
  pub within_level : (vs : List (Vec ℕ Z)) (i : ℕ) (c : Vec ℕ Z) (l : List ℕ) (n from left : ℕ) → IsTower (item_lists vs) → i < length vs → c ≡ get_or vs i c → l ≡ c.items → Starts (chunk_at (item_lists vs) i) n from left → n < sum (lowest (item_lists vs)) → left + sum (take from l) < sum l
  within_level vs i c l n from left t lt is e h less =
      let same = same_sum (item_lists vs) i t (omega (arith, lt, length-map vs (λ v. v.items))) in
      subst (λ m. left + sum (take from m) < sum m) (list_at vs i c lt is ∙ sym e) (omega (arith, h.item, same, less))

  pub spot_at : (vs : List (Vec ℕ Z)) (i : ℕ) (c : Vec ℕ Z) (l : List ℕ) (n from left : ℕ) (s : Spot) → i < length vs → c ≡ get_or vs i c → l ≡ c.items → Starts (chunk_at (item_lists vs) i) n from left → IsSpot l (left + sum (take from l)) s → IsSpot (chunk_at (item_lists vs) i) n s
  spot_at vs i c l n from left s lt is e h p =
      let back : l ≡ chunk_at (item_lists vs) i = e ∙ sym (list_at vs i c lt is) in
      subst (λ m. IsSpot (chunk_at (item_lists vs) i) m s) h.item (subst (λ m. IsSpot m (left + sum (take from m)) s) back p)

  pub down_level : (vs : List (Vec ℕ Z)) (i : ℕ) (c : Vec ℕ Z) (l : List ℕ) (n from left : ℕ) (s : Spot) → IsTower (item_lists vs) → 0 < i → i < length vs → c ≡ get_or vs i c → l ≡ c.items → Starts (chunk_at (item_lists vs) i) n from left → IsSpot l (left + sum (take from l)) s → Starts (chunk_at (item_lists vs) (i - 1)) n (s.leaf * WIDTH) s.rest
  down_level vs i c l n from left s t some lt is e h p =
      let back : suc (i - 1) ≡ i = omega (arith, some) in
      let over : IsAbove (chunk_at (item_lists vs) i) (chunk_at (item_lists vs) (i - 1)) = subst (λ k. IsAbove (chunk_at (item_lists vs) k) (chunk_at (item_lists vs) (i - 1))) back (above_at (item_lists vs) (i - 1) t (omega (arith, lt, some, length-map vs (λ v. v.items)))) in
      down (chunk_at (item_lists vs) i) (chunk_at (item_lists vs) (i - 1)) n s over (spot_at vs i c l n from left s lt is e h p)
