-- Notes, and passes, tickets and receipts that are cut off a seat, keep the rule.
use Rattle.std.proofs.Common.{eqb, ◌≡◌, ◌≢◌, ℕ, suc, ◌+◌, ◌<◌, ◌≤◌, List, [], ◌∷◌, ◌++◌, length, get_or, set, sym, refl, ap, subst, arith}
use mathlib.Core.Option.{some, none}
use lib.ListN.{get_elem?}
use prog.Atomic.{either}
use Rattle.atomic_table.specs.Table.{step, keeps, Allows, Splits}
use Rattle.df_log.specs.declared.entry.Entry.{Entry}
use Rattle.df_book.specs.Weights.{total, below, Each, head_or, tail}
use Rattle.df_book.specs.Draws.{draws_of, last_number}
use Rattle.df_book.specs.Views.{noting, cut_of, after_cut, cut_off, after_shard, shard_off, ticket_off, made_running, running_off, receipt_off}
use Rattle.df_book.specs.Rule.{pair_of, Owner, Fits, second, Kept}
use Rattle.df_book.specs.Steps.{Sat, NotedCut, note_said, NotedSaid}
use Rattle.df_book.specs.declared.draw.Draw.{Draw}
use Rattle.df_book.specs.declared.view.Said.{Said}
use Rattle.df_book.specs.declared.view.Note.{Note}
use Rattle.df_book.specs.declared.view.Note.TheVariants as note
use Rattle.df_book.specs.declared.view.View.{View}
use Rattle.df_book.proofs.Sums.{Each-append, total-append, total-set, terms_le, total-only, hit-same}
use Rattle.df_book.proofs.Moves.{St, moved, same-sessions, quiet, same-word}

fits-noting : (book : List Draw) (logs : List (List Entry)) (v : View) (x : Note) → Fits book logs v → Fits book logs (noting v x)
fits-noting book logs v x f = record { own = f.own; known = f.known; seen = f.seen; left = f.left; right = f.right; owner = f.owner; caller = f.caller; splits = f.splits; made = f.made }

renoted : (n : ℕ) (s : St) (k : Kept n s) (id : ℕ) (v : View) (x : Note) (ws : List ℕ) → ws ≡ s.words → get_elem? s.views id ≡ some v → Kept n record { words = ws; homes = s.homes; views = set s.views id (noting v x) }
renoted n s k id v x ws same at = quiet n s k id v (noting v x) ws same at refl refl refl refl refl refl refl refl refl (fits-noting k.book k.logs v x (k.each id v at))

-- a compare-exchange of a number by itself, which announces it
pub notes-cut : (n slots id : ℕ) (m : Sat) (k : ℕ) → Allows (Kept n) slots id m 0 (λ x. either (eqb x k) k x) (NotedCut (step slots 0 k k none) m)
notes-cut n slots id m k s kept deep at low = (noting m.0 (note.Cut k), keeps, tt, renoted n s kept id m.0 (note.Cut k) (set s.words 0 (either (eqb (get_or s.words 0 0) k) k (get_or s.words 0 0))) (same-word s.words 0 k) at, refl)

pub notes-said : (n slots id : ℕ) (m : Sat) (k : ℕ) (x : Said) → Allows (Kept n) slots id m 0 (λ x. either (eqb x k) k x) (NotedSaid (step slots 0 k k (some x)) m)
notes-said n slots id m k x s kept deep at low = (
  noting m.0 (note_said (some x)),
  keeps,
  tt,
  renoted n s kept id m.0 (note_said (some x)) (set s.words 0 (either (eqb (get_or s.words 0 0) k) k (get_or s.words 0 0))) (same-word s.words 0 k) at,
  refl,
)

-- a seat other than the first pass is no first pass
pub others-plain : (n : ℕ) (s : St) (k : Kept n s) (id : ℕ) (v : View) → v.first ≡ 1 → get_elem? s.views id ≡ some v → (j : ℕ) (u : View) → j ≢ id → get_elem? s.views j ≡ some u → u.first ≡ 0
others-plain n s k id v one at j u apart e = omega (arith, one, k.one_first, terms_le (λ (x : View). x.first) s.views id j v u apart at e)

pub only-first : (n : ℕ) (s : St) (k : Kept n s) (id : ℕ) (v : View) → v.first ≡ 1 → get_elem? s.views id ≡ some v → total (λ (u : View). u.splits) s.views ≡ v.splits
only-first n s k id v one at = total-only (λ (u : View). u.splits) s.views id v at (λ j u apart e. (k.each j u e).splits (others-plain n s k id v one at j u apart e))

-- a split leaves the words, the book and the logs
splits-off : (n : ℕ) (s : St) (k : Kept n s) (id : ℕ) (v w r : View) → get_elem? s.views id ≡ some v
    → w.budget + r.budget ≡ v.budget → ((f : Draw → ℕ) → total f w.own + total f r.own ≡ total f v.own)
    → ((f : ℕ → ℕ) → total (λ (u : View). total f u.sessions) (set s.views id w ++ r ∷ []) ≡ below f (total (λ (u : View). u.splits) (set s.views id w ++ r ∷ [])))
    → w.first + r.first ≡ v.first → ((f : ℕ → ℕ) → total f w.owns + total f r.owns ≡ total f v.owns)
    → ((f : ℕ → ℕ) → total f w.runs + total (second f) w.counted + (total f r.runs + total (second f) r.counted) + total f v.made ≤ total f v.runs + total (second f) v.counted + (total f w.made + total f r.made))
    → Fits k.book k.logs w → Fits k.book k.logs r → Kept n record { words = s.words; homes = s.homes; views = set s.views id w ++ r ∷ [] }
splits-off n s k id v w r at budget own seated first owns running mine theirs = moved n s k id v w (r ∷ []) s.words k.book k.logs record {
  at = at;
  wide = k.wide;
  counter = k.counter;
  lengths = k.lengths;
  numbered = k.numbered;
  room = omega (arith, budget);
  owned = λ f. omega (arith, own f);
  seated = seated;
  one_first = omega (arith, first);
  shelved = λ f. omega (arith, owns f);
  running = λ f. omega (arith, running f);
  entered = k.entered;
  inside = k.inside;
  others = λ j u _ e. k.each j u e;
  mine = mine;
  theirs = (theirs, tt);
}

-- a pass is cut off, with the draws that were noted
fits-left : (book : List Draw) (logs : List (List Entry)) (v : View) → v.first ≡ 1 → Fits book logs v → Fits book logs (after_cut v)
fits-left book logs v one f = record { own = f.own; known = f.known; seen = f.seen; left = f.left; right = f.right; owner = f.owner; caller = λ a b. absurd (omega (arith, one, a)); splits = λ a. absurd (omega (arith, one, a)); made = f.made }

fits-right : (book : List Draw) (logs : List (List Entry)) (v : View) → Fits book logs v → Fits book logs (cut_off v)
fits-right book logs v f = record { own = tt; known = tt; seen = f.seen; left = λ s. tt; right = λ s. tt; owner = tt; caller = λ a b. absurd (cc); splits = λ a. refl; made = tt }

pub cuts : (n id : ℕ) (v : View) → v.first ≡ 1 → cut_of v.note ≤ v.budget → Splits (Kept n) id v (after_cut v) (cut_off v)
cuts n id v one enough s k at =
    let l = after_cut v in let r = cut_off v in let vs = set s.views id l in
    let splits : total (λ (u : View). u.splits) (vs ++ r ∷ []) ≡ suc v.splits = omega (arith, only-first n s k id v one at, total-append (λ (u : View). u.splits) vs (r ∷ []), total-set (λ (u : View). u.splits) s.views id v l at) in
    splits-off n s k id v l r at (omega (arith, enough)) (λ f. omega arith)
    (λ f. omega (arith, k.seated f, total-append (λ (u : View). total f u.sessions) vs (r ∷ []), total-set (λ (u : View). total f u.sessions) s.views id v l at, ap (below f) (only-first n s k id v one at), ap (below f) splits))
    (omega (arith, one)) (λ f. omega arith) (λ f. omega arith) (fits-left k.book k.logs v one (k.each id v at)) (fits-right k.book k.logs v (k.each id v at))

-- a ticket, a running ticket, a receipt
pub tickets : (n id : ℕ) (v : View) → Splits (Kept n) id v v (ticket_off v)
tickets n id v s k at = let f = k.each id v at in splits-off n s k id v v (ticket_off v) at (omega arith) (λ f. omega arith) (same-sessions n s k id v v (ticket_off v ∷ []) at refl refl refl (λ f. refl)) (omega arith) (λ f. omega arith) (λ f. omega arith) f
    record { own = tt; known = f.own; seen = f.seen; left = λ s. tt; right = λ s. tt; owner = tt; caller = λ a b. (refl, refl, refl); splits = λ a. refl; made = tt }

last-drawn : (own : List Draw) → 0 < length own → 0 < draws_of (last_number own) own
last-drawn [] h = absurd (omega (arith, h))
last-drawn (d ∷ []) h = omega (arith, hit-same d.number)
last-drawn (d ∷ e ∷ ds) h = omega (arith, last-drawn (e ∷ ds) (omega arith))

pub runs : (n id : ℕ) (v : View) → 0 < length v.own → Splits (Kept n) id v (made_running v) (running_off v)
runs n id v some-drawn s k at = let f = k.each id v at in let l = made_running v in let r = running_off v in
    splits-off n s k id v l r at (omega arith) (λ f. omega arith) (same-sessions n s k id v l (r ∷ []) at refl refl refl (λ f. refl)) (omega arith) (λ f. omega arith)
    (λ f. omega (arith, total-append f v.made (last_number v.own ∷ [])))
    record { own = f.own; known = f.known; seen = f.seen; left = f.left; right = f.right; owner = f.owner; caller = λ a b. absurd (omega (arith, some-drawn, ap length (f.caller a b).0)); splits = f.splits; made = Each-append (λ (x : ℕ). 0 < draws_of x v.own) v.made (last_number v.own ∷ []) f.made (last-drawn v.own some-drawn, tt) }
    record { own = tt; known = f.own; seen = f.seen; left = λ s. tt; right = λ s. tt; owner = tt; caller = λ a b. (refl, refl, refl); splits = λ a. refl; made = tt }

pub receipts : (n id : ℕ) (v : View) → Splits (Kept n) id v v (receipt_off v)
receipts n id v s k at = let f = k.each id v at in
    splits-off n s k id v v (receipt_off v) at (omega arith) (λ f. omega arith) (same-sessions n s k id v v (receipt_off v ∷ []) at refl refl refl (λ f. refl)) (omega arith) (λ f. omega arith) (λ f. omega arith) f
    record { own = tt; known = f.known; seen = f.seen; left = λ i. tt; right = λ i. tt; owner = tt; caller = λ a b. (refl, refl, refl); splits = λ a. refl; made = tt }

-- a shard's pass is cut off the first
pub shards : (n id : ℕ) (v : View) (a : ℕ) (b : List ℕ) → v.owns ≡ a ∷ b → v.counted ≡ [] → Splits (Kept n) id v (after_shard v) (shard_off v)
shards n id v a b has none-yet s k at = let f = k.each id v at in let l = after_shard v in let r = shard_off v in
    let each : Each (Owner k.logs v) (a ∷ b) = subst (Each (Owner k.logs v)) has f.owner in
    let head : Owner k.logs v (head_or 0 v.owns) = subst (Owner k.logs v) (sym (ap (head_or 0) has)) each.0 in
    splits-off n s k id v l r at (omega arith) (λ f. omega arith) (same-sessions n s k id v l (r ∷ []) at refl refl refl (λ f. refl)) (omega arith)
    (λ f. omega (arith, ap (total f) has, ap (λ (x : List ℕ). total f (tail x)) has, ap (λ (x : List ℕ). f (head_or 0 x)) has)) (λ f. omega arith)
    record { own = f.own; known = f.known; seen = f.seen; left = f.left; right = f.right; owner = subst (Each (Owner k.logs v)) (sym (ap tail has)) each.1; caller = f.caller; splits = f.splits; made = f.made }
    record { own = tt; known = tt; seen = f.seen; left = λ s. tt; right = λ s. tt; owner = ((head.0, λ m. omega (arith, head.1 m, ap (total (pair_of (head_or 0 v.owns) m)) none-yet)), tt); caller = λ a b. (refl, refl, refl); splits = λ a. refl; made = tt }
