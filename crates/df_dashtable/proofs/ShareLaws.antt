-- How many places of a directory the segments have, and so how many segments there are.
use Rattle.std.proofs.Common.{◌≡◌, ℕ, zero, suc, ◌+◌, ◌-◌, ◌*◌, ◌^◌, ◌<◌, ◌≤◌, List, [], ◌∷◌, ◌++◌, length, set, refl, ap, ◌∙◌, arith}
use Rattle.std.proofs.lemmas.Nat.{pow-add, pow_pos}
use Rattle.std.proofs.Math.Pow.{pow_mono}
use Rattle.df_segment.specs.Buckets.{Segment}
use Rattle.df_dashtable.specs.Tables.{segment_at, places_of}

-- one more place of a hash makes two of one
twice : (n : ℕ) → 2 ^ (n + 1) ≡ 2 ^ n + 2 ^ n
twice n = let e : 2 ^ (n + 1) ≡ 2 ^ n * 2 = pow-add 2 n 1 in omega arith

pub halves : (depth d : ℕ) → d < depth → 2 ^ (depth - d) ≡ 2 ^ (depth - (d + 1)) + 2 ^ (depth - (d + 1))
halves depth d w = ap (λ (n : ℕ). 2 ^ n) (let e : depth - d ≡ (depth - (d + 1)) + 1 = omega arith in e) ∙ twice (depth - (d + 1))

module _ {V : Type 0} (depth : ℕ) where
  -- a segment in place of another
  pub places_set : (ss : List (Segment V)) (s : ℕ) (x : Segment V) → s < length ss
      → places_of depth (set ss s x) + 2 ^ (depth - (segment_at ss s).depth) ≡ places_of depth ss + 2 ^ (depth - x.depth)
  places_set [] s x w = absurd (omega arith)
  places_set (y ∷ ss) zero x w = omega arith
  places_set (y ∷ ss) (suc s) x w = let e = places_set ss s x (omega arith) in omega arith

  pub places_same : (ss : List (Segment V)) (s : ℕ) (x : Segment V) → s < length ss → x.depth ≡ (segment_at ss s).depth
      → places_of depth (set ss s x) ≡ places_of depth ss
  places_same ss s x w e = let p = places_set ss s x w in let q = ap (λ (n : ℕ). 2 ^ (depth - n)) e in omega arith

  pub places_behind : (ss : List (Segment V)) (x : Segment V) → places_of depth (ss ++ x ∷ []) ≡ places_of depth ss + 2 ^ (depth - x.depth)
  places_behind [] x = omega arith
  places_behind (y ∷ ss) x = let e = places_behind ss x in omega arith

  -- each segment has one at least
  places_few : (ss : List (Segment V)) → length ss ≤ places_of depth ss
  places_few [] = omega arith
  places_few (s ∷ ss) = let p = pow_pos (depth - s.depth) in let e = places_few ss in omega arith

  pub segments_few : (ss : List (Segment V)) → places_of depth ss ≤ 2 ^ depth → depth ≤ 20 → length ss ≤ 1048576
  segments_few ss shared deep =
      let f = places_few ss in let b : 2 ^ depth ≤ 2 ^ 20 = pow_mono deep in omega arith

  -- a segment and its new half have what it had
  pub places_split : (ss : List (Segment V)) (s : ℕ) (x y : Segment V) → s < length ss → (segment_at ss s).depth < depth
      → x.depth ≡ (segment_at ss s).depth + 1 → y.depth ≡ (segment_at ss s).depth + 1 → places_of depth (set ss s x ++ y ∷ []) ≡ places_of depth ss
  places_split ss s x y w deeper a b =
      let p = places_set ss s x w in
      let q = places_behind (set ss s x) y in
      let h = halves depth (segment_at ss s).depth deeper in
      let c = ap (λ (n : ℕ). 2 ^ (depth - n)) a in
      let d = ap (λ (n : ℕ). 2 ^ (depth - n)) b in
      omega arith

  -- in a directory that was doubled
  pub places_doubled : (ss : List (Segment V)) → ((s : ℕ) → s < length ss → (segment_at ss s).depth ≤ depth)
      → places_of (depth + 1) ss ≡ 2 * places_of depth ss
  places_doubled [] h = refl
  places_doubled (s ∷ ss) h =
      let e = places_doubled ss (λ k w. h (suc k) (omega arith)) in
      let low = h 0 (omega arith) in
      let f : 2 ^ ((depth + 1) - s.depth) ≡ 2 ^ (depth - s.depth) + 2 ^ (depth - s.depth) =
      ap (λ (n : ℕ). 2 ^ n) (let g : (depth + 1) - s.depth ≡ (depth - s.depth) + 1 = omega arith in g) ∙ twice (depth - s.depth) in
      omega arith

pub doubled_places : {V : Type 0} (depth : ℕ) (ss : List (Segment V)) → ((s : ℕ) → s < length ss → (segment_at ss s).depth ≤ depth)
    → places_of depth ss ≤ 2 ^ depth → places_of (depth + 1) ss ≤ 2 ^ (depth + 1)
doubled_places {V} depth ss low shared = let e = places_doubled depth ss low in let t = twice depth in omega arith
