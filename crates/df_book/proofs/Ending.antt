-- What a seat learns after a join, and what the first pass knows once all were joined.
use Rattle.std.proofs.Common.{lt_of_not-le, ◌≡◌, ◌≢◌, ℕ, suc, ◌<◌, ◌≤◌, List, [], ◌∷◌, length, get_or, set, sym, refl, ap, ◌∙◌, arith}
use Rattle.std.specs.Prelude.{slice_index}
use mathlib.Core.Option.{some, none}
use mathlib.Core.Logic.{dite}
use native.Mathlib.Decide.{dec_le}
use lib.ListN.{get_elem?}
use lib.Seq.{set-get_or}
use Rattle.atomic_table.specs.Table.{step, keeps, Allows}
use Rattle.df_log.specs.declared.entry.Entry.{Entry}
use Rattle.df_book.specs.Weights.{total, below, hit}
use Rattle.df_book.specs.Logs.{at_log, use_of, uses_in}
use Rattle.df_book.specs.Draws.{draws_of, call_at, Numbered, IsDraw, Bounded}
use Rattle.df_book.specs.Closed.{Settled}
use Rattle.df_book.specs.Shown.{closed_of}
use Rattle.df_book.specs.Views.{learned}
use Rattle.df_book.specs.Rule.{IsDrawn, pair_of, Owner, Fits, second, Kept}
use Rattle.df_book.specs.Steps.{Sat, Learned, EachJoined, Counted, Settles}
use Rattle.df_book.specs.declared.draw.Draw.{Draw}
use Rattle.df_book.specs.declared.view.View.{View}
use Rattle.df_book.proofs.Sums.{pairs-once, total-mono, Each-map, term_le, terms_le, total-only, hit-same, below-hit, total-length, below-mono, below-all, each-list}
use Rattle.df_book.proofs.Logs.{prefix-each, prefix-total}
use Rattle.df_book.proofs.Moves.{St, quiet}
use Rattle.df_book.proofs.Numbers.{drawn-below, made-none, row-once, row-most, found, agreed}
use Rattle.df_book.proofs.Cuts.{others-plain, only-first}

-- once all passes were joined into the first, it has all draws
others-bare : (n : ℕ) (s : St) (k : Kept n s) (id : ℕ) (v : View) → EachJoined v → get_elem? s.views id ≡ some v → (j : ℕ) (u : View) → j ≢ id → get_elem? s.views j ≡ some u → (u.own ≡ []) × (u.budget ≡ 0) × (u.made ≡ [])
others-bare n s k id v all at j u apart e =
    let plain = others-plain n s k id v all.0 at j u apart e in
    (k.each j u e).caller plain (no-sessions u.sessions refl)
  where
    no-sessions : (l : List ℕ) → l ≡ u.sessions → u.sessions ≡ []
    no-sessions [] is = sym is
    no-sessions (i ∷ is) same =
        let both = terms_le (λ (x : View). total (hit i) x.sessions) s.views id j v u apart at e in
        let mine = ap (total (hit i)) same in
        let sum = k.seated (hit i) in
        let splits = ap (below (hit i)) (only-first n s k id v all.0 at) in
        dite (dec_le v.splits i)
        (λ far. absurd (omega (arith, both, mine, sum, splits, (below-hit i v.splits).1 far, hit-same i)))
        (λ near. absurd (omega (arith, both, mine, sum, splits, (below-hit i v.splits).0, hit-same i, all.1 i (lt_of_not-le near))))

all-own : (n : ℕ) (s : St) (k : Kept n s) (id : ℕ) (v : View) → EachJoined v → get_elem? s.views id ≡ some v → (f : Draw → ℕ) → total f v.own ≡ total f k.book
all-own n s k id v all at f = sym (total-only (λ (u : View). total f u.own) s.views id v at (λ j u apart e. ap (total f) (others-bare n s k id v all at j u apart e).0)) ∙ k.owned f

all-made : (n : ℕ) (s : St) (k : Kept n s) (id : ℕ) (v : View) → EachJoined v → get_elem? s.views id ≡ some v → (f : ℕ → ℕ) → total (λ (u : View). total f u.made) s.views ≡ total f v.made
all-made n s k id v all at f = total-only (λ (u : View). total f u.made) s.views id v at (λ j u apart e. ap (total f) (others-bare n s k id v all at j u apart e).2)

all-numbered : (n : ℕ) (s : St) (k : Kept n s) (id : ℕ) (v : View) → EachJoined v → get_elem? s.views id ≡ some v → Numbered v.own × (length v.own ≡ length k.book)
all-numbered n s k id v all at =
    let own = all-own n s k id v all at in
    let long : length v.own ≡ length k.book = sym (total-length v.own) ∙ own (λ _. 1) ∙ total-length k.book in (
      record {
        range = Each-map (IsDrawn k.book) (λ (d : Draw). (0 < d.number) × (d.number ≤ length v.own)) (λ d h. let r = drawn-below k.book k.numbered d h in (r.0, omega (arith, long, r.1))) v.own (k.each id v at).own;
        once = λ m a b. own (λ (d : Draw). hit m d.number) ∙ (row-once k.book 1 (λ i d h. omega (arith, k.numbered i d h)) m).1 (omega (arith, a)) (omega (arith, b, long));
      },
      long,
    )

pub counts : (n slots id : ℕ) (m : Sat) → Allows (Kept n) slots id m 0 (λ x. x) (Counted (step slots 0 0 0 none) m)
counts n slots id m s k deep at low = let v = m.0 in let f = k.each id v at in let c : slice_index s.words 0 ≡ suc (length k.book) = k.counter in (
  v,
  keeps,
  tt,
  quiet n s k id v v (set s.words 0 (get_or s.words 0 0)) (set-get_or s.words 0 0) at refl refl refl refl refl refl refl refl refl f,
  (refl, omega (arith, c), λ all. let a = all-numbered n s k id v all at in (a.0, c ∙ ap suc (sym a.1))),
)

-- what was seen uses no more running tickets of a number than all seats made
uses-made : (n : ℕ) (s : St) (k : Kept n s) (id : ℕ) (v : View) → get_elem? s.views id ≡ some v → (m c : ℕ) → uses_in m v.seen c ≤ total (λ (u : View). total (hit m) u.made) s.views
uses-made n s k id v at m c =
    let f = k.each id v at in
    let U : ℕ → ℕ = λ i. total (use_of m) (at_log k.logs i) in
    let a = below-mono (λ i. total (use_of m) (at_log v.seen i)) U (λ i. prefix-total (use_of m) (at_log v.seen i) (at_log k.logs i) (f.seen i)) c in
    let b = below-all U n (λ i h. ap (total (use_of m)) (k.inside i h)) c in
    let owner : (j : ℕ) (u : View) → get_elem? s.views j ≡ some u → total U u.owns ≤ total (second (hit m)) u.counted = λ j u e.
    let g = k.each j u e in
    let each = total-mono U (λ (i : ℕ). total (pair_of i m) u.counted) u.owns (Each-map (Owner k.logs u) (λ (i : ℕ). U i ≤ total (pair_of i m) u.counted) (λ i o. o.1 m) u.owns g.owner) in
    let once = pairs-once m u.owns u.counted (λ i. omega (arith, k.shelved (hit i), term_le (λ (x : View). total (hit i) x.owns) s.views j u e, (below-hit i n).0)) in
    omega (arith, each, once) in
    let d = total-mono (λ (u : View). total U u.owns) (λ (u : View). total (second (hit m)) u.counted) s.views (each-list (λ (u : View). total U u.owns ≤ total (second (hit m)) u.counted) s.views owner) in
    omega (arith, a, b, k.shelved U, d, k.running (hit m))

bounded : (n : ℕ) (s : St) (k : Kept n s) (id : ℕ) (v : View) → get_elem? s.views id ≡ some v → Bounded v.own v.made v.seen
bounded n s k id v at m c mine =
    let most = (row-most k.book 1 (λ i e h. omega (arith, k.numbered i e h)) m).1 in
    let others : (j : ℕ) (u : View) → j ≢ id → get_elem? s.views j ≡ some u → total (hit m) u.made ≡ 0 = λ j u apart e.
    made-none m u.own u.made (k.each j u e).made (omega (arith, mine, most, k.owned (λ (x : Draw). hit m x.number), terms_le (λ (x : View). draws_of m x.own) s.views id j v u apart at e)) in
    omega (arith, uses-made n s k id v at m c, total-only (λ (u : View). total (hit m) u.made) s.views id v at others)

settled : (n : ℕ) (s : St) (k : Kept n s) (id : ℕ) (v : View) → EachJoined v → get_elem? s.views id ≡ some v → Settled (closed_of v)
settled n s k id v all at =
    let f = k.each id v at in
    let num = all-numbered n s k id v all at in
    record {
      numbered = num.0;
      drawn = λ i. prefix-each (λ (e : Entry). (0 < e.number) × (e.number ≤ length v.own)) (at_log v.seen i) (at_log k.logs i) (f.seen i)
          (Each-map (λ (e : Entry). (0 < e.number) × (e.number < suc (length k.book))) (λ (e : Entry). (0 < e.number) × (e.number ≤ length v.own)) (λ e h. (h.0, omega (arith, h.1, num.1))) (at_log k.logs i) (k.entered i));
      tickets = λ m c. omega (arith, uses-made n s k id v at m c, all-made n s k id v all at (hit m));
      known = Each-map (IsDrawn k.book) (IsDraw v.own)
          (λ d h. let r = drawn-below k.book k.numbered d h in let one = num.0.once d.number r.0 (omega (arith, r.1, num.1)) in let some-own : 0 < draws_of d.number v.own = omega (arith, one) in (some-own, found k.book k.numbered v.own d f.own h some-own))
          v.known f.known;
    }

-- a load that compares what two seats had seen
fits-learned : (book : List Draw) (logs : List (List Entry)) (v : View) → Fits book logs v → Fits book logs (learned v)
fits-learned book logs v f = record { own = f.own; known = f.known; seen = f.seen; left = λ s. tt; right = λ s. tt; owner = f.owner; caller = f.caller; splits = f.splits; made = f.made }

pub learns : (n slots id : ℕ) (m : Sat) → Allows (Kept n) slots id m 0 (λ x. x) (Learned (step slots 0 0 0 none) m)
learns n slots id m s k deep at low = let v = m.0 in let mine = k.each id v at in (
  learned v,
  keeps,
  tt,
  quiet n s k id v (learned v) (set s.words 0 (get_or s.words 0 0)) (set-get_or s.words 0 0) at refl refl refl refl refl refl refl refl refl (fits-learned k.book k.logs v mine),
  (
    refl,
    (mine.left, mine.right),
    agreed k.book k.numbered v.known mine.known,
    bounded n s k id v at,
    λ i. omega (arith, k.shelved (hit i), term_le (λ (u : View). total (hit i) u.owns) s.views id v at, (below-hit i n).0),
    Each-map (IsDrawn k.book) (λ (d : Draw). 0 < draws_of d.number v.own → call_at v.own d.number ≡ d.call) (λ d h some-own. found k.book k.numbered v.own d mine.own h some-own) v.known mine.known,
    omega (arith, k.room, term_le (λ (u : View). u.budget) s.views id v at),
  ),
)

pub settles : (n slots id : ℕ) (m : Sat) → Allows (Kept n) slots id m 0 (λ x. x) (Settles (step slots 0 0 0 none) m)
settles n slots id m s k deep at low = let v = m.0 in let f = k.each id v at in (
  v,
  keeps,
  tt,
  quiet n s k id v v (set s.words 0 (get_or s.words 0 0)) (set-get_or s.words 0 0) at refl refl refl refl refl refl refl refl refl f,
  (
    refl,
    (λ all. settled n s k id v all at),
    λ i. omega (arith, k.seated (hit i), term_le (λ (u : View). total (hit i) u.sessions) s.views id v at, (below-hit i (total (λ (u : View). u.splits) s.views)).0),
  ),
)
