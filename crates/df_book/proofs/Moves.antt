-- What is kept over any step of one seat.
use Rattle.std.proofs.Common.{eqb, ◌≡◌, ◌≢◌, ℕ, suc, ◌+◌, ◌%◌, ◌^◌, ◌<◌, ◌≤◌, List, [], ◌++◌, length, get_or, set, sym, refl, ap, ◌∙◌, subst, ⊎_elim, arith, Some}
use Rattle.std.specs.Prelude.{slice_get, slice_index}
use mathlib.Core.Option.{some}
use lib.ListN.{get_elem?}
use lib.Seq.{set-get_or}
use prog.Atomic.{either}
use Rattle.atomic_table.specs.Table.{State}
use Rattle.atomic_table.proofs.Lists.{at_set, exchanged}
use Rattle.df_log.specs.declared.entry.Entry.{Entry}
use Rattle.df_book.specs.Weights.{total, below, Each}
use Rattle.df_book.specs.Logs.{at_log}
use Rattle.df_book.specs.Rule.{IsDrawn, Fits, second, Kept}
use Rattle.df_book.specs.declared.draw.Draw.{Draw}
use Rattle.df_book.specs.declared.view.Said.{Said}
use Rattle.df_book.specs.declared.view.View.{View}
use Rattle.df_book.proofs.Sums.{Each-map, get-front, total-append, total-set, append-none, each-append}

abbrev pub St : Type 0
St = State Said View

pub drawn-more : (book more : List Draw) (d : Draw) → IsDrawn book d → IsDrawn (book ++ more) d
drawn-more book more d h = (h.0, get-front book more h.0 d h.1)

pub fits-more : (book more : List Draw) (logs : List (List Entry)) (v : View) → Fits book logs v → Fits (book ++ more) logs v
fits-more book more logs v f = record {
  own = Each-map (IsDrawn book) (IsDrawn (book ++ more)) (drawn-more book more) v.own f.own;
  known = Each-map (IsDrawn book) (IsDrawn (book ++ more)) (drawn-more book more) v.known f.known;
  seen = f.seen;
  left = f.left;
  right = f.right;
  owner = f.owner;
  caller = f.caller;
  splits = f.splits;
  made = f.made;
}

-- after one seat has changed its view
pub each-set : (P : View → Type 0) (vs : List View) (id : ℕ) (w : View) → ((j : ℕ) (u : View) → j ≢ id → get_elem? vs j ≡ some u → P u) → P w → (j : ℕ) (u : View) → get_elem? (set vs id w) j ≡ some u → P u
each-set P vs id w old new j u e = ⊎_elim (λ (t : (j ≡ id) × (w ≡ u)). subst P t.1 new) (λ (t : (j ≢ id) × (get_elem? vs j ≡ some u)). old j u t.0 t.1) (at_set vs id j w u e)

-- the seat id goes from v to w, and new seats come
pub record Goes (n : ℕ) (s : St) (k : Kept n s) (id : ℕ) (v w : View) (news : List View) (ws : List ℕ) (book : List Draw) (logs : List (List Entry)) : Type 0 where
  pub at : get_elem? s.views id ≡ some v
  pub wide : length ws ≡ suc n
  pub counter : slice_index ws 0 ≡ suc (length book)
  pub lengths : (i : ℕ) → i < n → slice_index ws (suc i) ≡ length (at_log logs i) % 2 ^ 64
  pub numbered : (i : ℕ) (d : Draw) → slice_get book i ≡ Some d → d.number ≡ suc i
  pub room : w.budget + total (λ (u : View). u.budget) news + length book ≤ v.budget + length k.book
  pub owned : (f : Draw → ℕ) → total f w.own + total (λ (u : View). total f u.own) news + total f k.book ≡ total f v.own + total f book
  pub seated : (f : ℕ → ℕ) → total (λ (u : View). total f u.sessions) (set s.views id w ++ news) ≡ below f (total (λ (u : View). u.splits) (set s.views id w ++ news))
  pub one_first : w.first + total (λ (u : View). u.first) news ≡ v.first
  pub shelved : (f : ℕ → ℕ) → total f w.owns + total (λ (u : View). total f u.owns) news ≡ total f v.owns
  pub running : (f : ℕ → ℕ) → total f w.runs + total (second f) w.counted + (total (λ (u : View). total f u.runs) news + total (λ (u : View). total (second f) u.counted) news) + total f v.made
      ≤ total f v.runs + total (second f) v.counted + (total f w.made + total (λ (u : View). total f u.made) news)
  pub entered : (i : ℕ) → Each (λ (e : Entry). (0 < e.number) × (e.number < suc (length book))) (at_log logs i)
  pub inside : (i : ℕ) → n ≤ i → at_log logs i ≡ []
  pub others : (j : ℕ) (u : View) → j ≢ id → get_elem? s.views j ≡ some u → Fits book logs u
  pub mine : Fits book logs w
  pub theirs : Each (Fits book logs) news

pub moved : (n : ℕ) (s : St) (k : Kept n s) (id : ℕ) (v w : View) (news : List View) (ws : List ℕ) (book : List Draw) (logs : List (List Entry)) → Goes n s k id v w news ws book logs
    → Kept n record { words = ws; homes = s.homes; views = set s.views id w ++ news }
moved n s k id v w news ws book logs g =
    let sum : (f : View → ℕ) → total f (set s.views id w ++ news) + f v ≡ total f s.views + f w + total f news = λ f. omega (arith, total-append f (set s.views id w) news, total-set f s.views id v w g.at) in
    record {
      book = book;
      logs = logs;
      wide = g.wide;
      counter = g.counter;
      lengths = g.lengths;
      numbered = g.numbered;
      room = omega (arith, k.room, g.room, sum (λ (u : View). u.budget));
      owned = λ f. omega (arith, k.owned f, g.owned f, sum (λ (u : View). total f u.own));
      seated = g.seated;
      one_first = omega (arith, k.one_first, g.one_first, sum (λ (u : View). u.first));
      shelved = λ f. omega (arith, k.shelved f, g.shelved f, sum (λ (u : View). total f u.owns));
      running = λ f. omega (arith, k.running f, g.running f, sum (λ (u : View). total f u.runs), sum (λ (u : View). total (second f) u.counted), sum (λ (u : View). total f u.made));
      entered = g.entered;
      inside = g.inside;
      each = each-append (Fits book logs) (set s.views id w) news (each-set (Fits book logs) s.views id w g.others g.mine) g.theirs;
    }

-- no new seat
pub moved-one : (n : ℕ) (s : St) (k : Kept n s) (id : ℕ) (v w : View) (ws : List ℕ) (book : List Draw) (logs : List (List Entry)) → Goes n s k id v w [] ws book logs
    → Kept n record { words = ws; homes = s.homes; views = set s.views id w }
moved-one n s k id v w ws book logs g = subst (λ (l : List View). Kept n record { words = ws; homes = s.homes; views = l }) (append-none (set s.views id w)) (moved n s k id v w [] ws book logs g)

-- where the seat keeps its numbers and its splits, and the new seats have none
pub same-sessions : (n : ℕ) (s : St) (k : Kept n s) (id : ℕ) (v w : View) (news : List View) → get_elem? s.views id ≡ some v → w.sessions ≡ v.sessions → w.splits ≡ v.splits
    → total (λ (u : View). u.splits) news ≡ 0 → ((f : ℕ → ℕ) → total (λ (u : View). total f u.sessions) news ≡ 0)
    → (f : ℕ → ℕ) → total (λ (u : View). total f u.sessions) (set s.views id w ++ news) ≡ below f (total (λ (u : View). u.splits) (set s.views id w ++ news))
same-sessions n s k id v w news at a b c d f =
    let splits : total (λ (u : View). u.splits) (set s.views id w ++ news) ≡ total (λ (u : View). u.splits) s.views = omega (arith, b, c, total-append (λ (u : View). u.splits) (set s.views id w) news, total-set (λ (u : View). u.splits) s.views id v w at) in
    omega (arith, ap (below f) splits, ap (total f) a, d f, k.seated f, total-append (λ (u : View). total f u.sessions) (set s.views id w) news, total-set (λ (u : View). total f u.sessions) s.views id v w at)

-- a step that leaves the words, the book and the logs, in which the seat changes no count
pub quiet : (n : ℕ) (s : St) (k : Kept n s) (id : ℕ) (v w : View) (ws : List ℕ) → ws ≡ s.words → get_elem? s.views id ≡ some v → w.sessions ≡ v.sessions → w.splits ≡ v.splits → w.budget ≡ v.budget → w.own ≡ v.own → w.first ≡ v.first → w.owns ≡ v.owns
    → w.runs ≡ v.runs → w.counted ≡ v.counted → w.made ≡ v.made → Fits k.book k.logs w → Kept n record { words = ws; homes = s.homes; views = set s.views id w }
quiet n s k id v w ws same at sessions splits budget own first owns runs counted made fits = moved-one n s k id v w ws k.book k.logs record {
  at = at;
  wide = ap length same ∙ k.wide;
  counter = ap (λ (l : List ℕ). slice_index l 0) same ∙ k.counter;
  lengths = λ i h. ap (λ (l : List ℕ). slice_index l (suc i)) same ∙ k.lengths i h;
  numbered = k.numbered;
  room = omega (arith, budget);
  owned = λ f. omega (arith, ap (total f) own);
  seated = same-sessions n s k id v w [] at sessions splits refl (λ f. refl);
  one_first = omega (arith, first);
  shelved = λ f. omega (arith, ap (total f) owns);
  running = λ f. omega (arith, ap (total f) runs, ap (total (second f)) counted, ap (total f) made);
  entered = k.entered;
  inside = k.inside;
  others = λ j u _ e. k.each j u e;
  mine = fits;
  theirs = tt;
}

pub same-word : (ws : List ℕ) (i x : ℕ) → set ws i (either (eqb (get_or ws i 0) x) x (get_or ws i 0)) ≡ ws
same-word ws i x = exchanged (get_or ws i 0) x x (λ (n : ℕ). set ws i n ≡ ws) (λ e. ap (set ws i) (sym e) ∙ set-get_or ws i 0) (λ _. set-get_or ws i 0)
