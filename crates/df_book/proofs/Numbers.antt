-- Draws by their numbers.
use Rattle.std.proofs.Common.{lt_of_not-le, cond, eq-eqb, ne_eqb, ◌≡◌, ◌≢◌, ℕ, suc, ◌+◌, ◌<◌, ◌≤◌, List, [], ◌∷◌, length, sym, refl, ap, ◌∙◌, subst, arith, Some, None}
use Rattle.std.specs.Prelude.{slice_get, slice_index}
use Rattle.std.specs.Prelude as Maybe
use mathlib.Core.Logic.{dite}
use native.Mathlib.Decide.{ℕ_discrete, dec_le}
use Rattle.df_book.specs.Weights.{total, Each, hit}
use Rattle.df_book.specs.Draws.{draws_of, call_at, Agreed}
use Rattle.df_book.specs.Rule.{IsDrawn}
use Rattle.df_book.specs.declared.draw.Draw.{Draw}
use Rattle.df_book.proofs.Sums.{Each-two, get-below, hit-same, hit-else}

-- a book has the numbers 1, 2 and so on
abbrev pub InRow : List Draw → Type 0
InRow book = (k : ℕ) (d : Draw) → slice_get book k ≡ Some d → d.number ≡ suc k

pub drawn-below : (book : List Draw) → InRow book → (d : Draw) → IsDrawn book d → (0 < d.number) × (d.number < suc (length book))
drawn-below book row d h = (omega (arith, row h.0 d h.1), omega (arith, row h.0 d h.1, get-below book h.0 d h.1))

-- a number of some of its draws
pub range-of : (book : List Draw) → InRow book → (known : List Draw) → Each (IsDrawn book) known → (n : ℕ) → 0 < draws_of n known → (0 < n) × (n < suc (length book))
range-of book row [] e n h = absurd (omega (arith, h))
range-of book row (d ∷ known) e n h = dite (ℕ_discrete d.number n)
    (λ (is : d.number ≡ n). subst (λ (x : ℕ). (0 < x) × (x < suc (length book))) is (drawn-below book row d e.0))
    (λ (ne : d.number ≢ n). range-of book row known e.1 n (omega (arith, h, hit-else n d.number ne)))

pub none-drawn : (x : ℕ) (own : List Draw) → Each (λ (d : Draw). d.number < x) own → draws_of x own ≡ 0
none-drawn x [] e = refl
none-drawn x (d ∷ own) e = omega (arith, none-drawn x own e.1, hit-else x d.number (λ is. omega (arith, is, e.0)))

pub made-none : (m : ℕ) (own : List Draw) (made : List ℕ) → Each (λ (y : ℕ). 0 < draws_of y own) made → draws_of m own ≡ 0 → total (hit m) made ≡ 0
made-none m own [] e z = refl
made-none m own (y ∷ made) e z = omega (arith, made-none m own made e.1 z, hit-else m y (λ is. absurd (omega (arith, z, subst (λ t. 0 < draws_of t own) is e.0))))

-- numbers in a row stand once each
pub row-once : (book : List Draw) (j : ℕ) → ((k : ℕ) (d : Draw) → slice_get book k ≡ Some d → d.number ≡ j + k) → (m : ℕ)
    → (m < j → total (λ (d : Draw). hit m d.number) book ≡ 0) × (j ≤ m → m < j + length book → total (λ (d : Draw). hit m d.number) book ≡ 1)
row-once [] j h m = ((λ _. refl), (λ a b. absurd (omega (arith, a, b))))
row-once (d ∷ ds) j h m =
    let here : d.number ≡ j + 0 = h 0 d refl in
    let rest = row-once ds (suc j) (λ k e g. omega (arith, h (suc k) e g)) m in (
      (λ less. omega (arith, rest.0 (omega (arith, less)), hit-else m d.number (λ is. omega (arith, less, here)))),
      (λ a b. dite (ℕ_discrete d.number m) (λ (is : d.number ≡ m). let one : hit m d.number ≡ 1 = ap (λ x. cond x 1 0) (eq-eqb d.number m is) in omega (arith, one, rest.0 (omega (arith, is, here))))
          (λ (ne : d.number ≢ m). let zero-here = hit-else m d.number ne in omega (arith, zero-here, rest.1 (apart m a here ne) (omega (arith, b))))),
    )
  where
    apart : (m : ℕ) → j ≤ m → d.number ≡ j + 0 → d.number ≢ m → suc j ≤ m
    apart m a here ne = dite (dec_le (suc j) m) (λ y. y) (λ z. absurd (ne (omega (arith, here, a, lt_of_not-le z))))

-- no number stands twice in the book
pub row-most : (book : List Draw) (j : ℕ) → ((k : ℕ) (d : Draw) → slice_get book k ≡ Some d → d.number ≡ j + k) → (m : ℕ) → (m < j → draws_of m book ≡ 0) × (draws_of m book ≤ 1)
row-most [] j h m = ((λ _. refl), omega arith)
row-most (d ∷ ds) j h m =
    let here : d.number ≡ j + 0 = h 0 d refl in
    let rest = row-most ds (suc j) (λ k e g. omega (arith, h (suc k) e g)) m in
    dite (ℕ_discrete d.number m)
    (λ (is : d.number ≡ m). let one : hit m d.number ≡ 1 = ap (λ x. cond x 1 0) (eq-eqb d.number m is) in ((λ less. absurd (omega (arith, less, is, here))), omega (arith, one, rest.0 (omega (arith, is, here)))))
    (λ (ne : d.number ≢ m). let z = hit-else m d.number ne in ((λ less. omega (arith, z, rest.0 (omega (arith, less)))), omega (arith, z, rest.1)))

abbrev draw-or : Draw → Maybe.Option Draw → Draw
draw-or x (Some y) = y
draw-or x None = x

-- draws of one number are one
draws-same : (book : List Draw) → InRow book → (x d : Draw) → IsDrawn book x → IsDrawn book d → x.number ≡ d.number → x ≡ d
draws-same book numbered x d a b e = ap (draw-or x) (sym a.1 ∙ ap (slice_get book) (let i : a.0 ≡ b.0 = omega (arith, e, numbered a.0 x a.1, numbered b.0 d b.1) in i) ∙ b.1)

pub found : (book : List Draw) → InRow book → (own : List Draw) (d : Draw) → Each (IsDrawn book) own → IsDrawn book d → 0 < draws_of d.number own → call_at own d.number ≡ d.call
found book numbered [] d e h c = absurd (omega (arith, c))
found book numbered (x ∷ own) d e h c = dite (ℕ_discrete x.number d.number)
    (λ (is : x.number ≡ d.number). ap (λ b. cond b x.call (call_at own d.number)) (eq-eqb x.number d.number is) ∙ ap (λ (y : Draw). y.call) (draws-same book numbered x d e.0 h is))
    (λ (no : x.number ≢ d.number). ap (λ b. cond b x.call (call_at own d.number)) (ne_eqb x.number d.number no) ∙ found book numbered own d e.1 h (omega (arith, c, hit-else d.number x.number no)))

one-drawn : (all ds : List Draw) → ((n : ℕ) → draws_of n ds ≤ draws_of n all) → Each (λ (d : Draw). 0 < draws_of d.number all) ds
one-drawn all [] h = tt
one-drawn all (d ∷ ds) h = (omega (arith, h d.number, hit-same d.number), one-drawn all ds (λ n. omega (arith, h n)))

pub agreed : (book : List Draw) → InRow book → (known : List Draw) → Each (IsDrawn book) known → Agreed known
agreed book row known f = Each-two (IsDrawn book) (λ (d : Draw). 0 < draws_of d.number known) (λ (d : Draw). call_at known d.number ≡ d.call) (λ d h c. found book row known d f h c) known f (one-drawn known known (λ m. omega arith))
