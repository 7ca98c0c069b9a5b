-- A file has its entries in one order.
use Rattle.std.proofs.Common.{◌≡◌, ℕ, ◌<◌, ◌≤◌, List, [], ◌∷◌, ◌++◌, drop, Option, refl, sym, ap, ◌∙◌, arith, append_assoc}
use Rattle.std.specs.Int.{w64, to_le_bytes}
use Rattle.std.specs.List.{filter_map}
use Rattle.df_model.specs.Values.{Bytes}
use Rattle.df_rdbcore.specs.Parts.{InTurn, Entry, IsPart}
use Rattle.df_rdbcore.specs.Files.{summed, keyspace_of}
use Rattle.df_rdbcore.specs.Laws.{SpellsOne, HasOneOrder}
use Rattle.df_rdbcore.proofs.TextLaws.{heads}
use Rattle.df_rdbcore.proofs.PartLaws.{kind_low, part_one}

-- a part begins with a byte other than FF
record Begun (bytes : Bytes) : Type 0 where
  first : ℕ
  behind : Bytes
  is : bytes ≡ first ∷ behind
  below : first < 255

begun : (bytes : Bytes) (added : Option Entry) → IsPart bytes added → Begun bytes
begun bytes added (IsPart.Auxiliary rest said p i n) = record { first = 250; behind = rest; is = i; below = omega arith }
begun bytes added (IsPart.Sizes rest said p i n) = record { first = 251; behind = rest; is = i; below = omega arith }
begun bytes added (IsPart.Database rest p i n) = record { first = 254; behind = rest; is = i; below = omega arith }
begun bytes added (IsPart.Holds kind rest entry p i n) =
    let low : kind ≤ 4 = kind_low kind p.rest entry.1 p.rest_is in
    record { first = kind; behind = rest; is = i; below = omega arith }

no_end : (first rest s x y : Bytes) (added : Option Entry) → IsPart first added → s ≡ first ++ rest → s ++ x ≡ 255 ∷ y → ⊥
no_end first rest s x y added p i e =
    let b : Begun first = begun first added p in
    let e' : b.first ∷ (b.behind ++ rest) ++ x ≡ 255 ∷ y = ap (λ z. (z ++ rest) ++ x) (sym b.is) ∙ ap (λ z. z ++ x) (sym i) ∙ e in
    let same : b.first ≡ 255 = (heads b.first 255 ((b.behind ++ rest) ++ x) y e').0 in
    let low : b.first < 255 = b.below in
    omega arith

parts_one : (s t x y : Bytes) (us vs : List (Option Entry)) → InTurn IsPart s us → InTurn IsPart t vs → s ++ 255 ∷ x ≡ t ++ 255 ∷ y → us ≡ vs
parts_one s t x y [] [] p q e = refl
parts_one s t x y [] (b ∷ vs) p (first, rest, q, qs, j) e = absurd (no_end first rest t (255 ∷ y) x b q j (sym e ∙ ap (λ z. z ++ 255 ∷ x) p))
parts_one s t x y (a ∷ us) [] (first, rest, p, ps, i) q e = absurd (no_end first rest s (255 ∷ x) y a p i (e ∙ ap (λ z. z ++ 255 ∷ y) q))
parts_one s t x y (a ∷ us) (b ∷ vs) (first, rest, p, ps, i) (first', rest', q, qs, j) e =
    let e' : first ++ (rest ++ 255 ∷ x) ≡ first' ++ (rest' ++ 255 ∷ y) =
    sym (append_assoc first rest (255 ∷ x)) ∙ ap (λ z. z ++ 255 ∷ x) (sym i) ∙ e ∙ ap (λ z. z ++ 255 ∷ y) j ∙ append_assoc first' rest' (255 ∷ y) in
    let r : (a ≡ b) × (rest ++ 255 ∷ x ≡ rest' ++ 255 ∷ y) = part_one first first' (rest ++ 255 ∷ x) (rest' ++ 255 ∷ y) a b p q e' in
    let ih : us ≡ vs = parts_one rest rest' x y us vs ps qs r.1 in
    λ k. r.0 k ∷ ih k

-- what stands behind the nine bytes of the head
behind_head : (version : ℕ) (body end : Bytes) → drop 9 (summed version body ++ end) ≡ body ++ 255 ∷ end
behind_head version body end = append_assoc body (255 ∷ []) end

pub has_one_order : HasOneOrder
has_one_order bytes entries entries' p q =
    let e : p.body ++ 255 ∷ to_le_bytes w64 p.sum ≡ q.body ++ 255 ∷ to_le_bytes w64 q.sum =
    sym (behind_head p.version p.body (to_le_bytes w64 p.sum)) ∙ ap (drop 9) (sym p.whole ∙ q.whole) ∙ behind_head q.version q.body (to_le_bytes w64 q.sum) in
    p.entries_are ∙ ap (filter_map (λ added. added)) (parts_one p.body q.body (to_le_bytes w64 p.sum) (to_le_bytes w64 q.sum) p.parts q.parts p.parts_are q.parts_are e) ∙ sym q.entries_are

pub spells_one : SpellsOne
spells_one bytes K K' p q = p.keyspace ∙ ap keyspace_of (has_one_order bytes p.entries q.entries p.is_file q.is_file) ∙ sym q.keyspace
