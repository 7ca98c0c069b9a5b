-- Two seats that become one keep the rule.
use Rattle.std.proofs.Common.{◌≡◌, ◌≢◌, ℕ, ◌+◌, ◌<◌, List, ◌++◌, map, set, sym, refl, ap, ◌∙◌, subst, ⊎_elim, arith}
use mathlib.Core.Option.{some}
use lib.ListN.{get_elem?}
use Rattle.atomic_table.specs.Table.{Joins}
use Rattle.atomic_table.proofs.Lists.{at_set}
use Rattle.df_log.specs.declared.entry.Entry.{Entry}
use Rattle.df_book.specs.Weights.{total, below, Each, hit, head_or}
use Rattle.df_book.specs.Logs.{at_log, IsPrefix, Within, longer}
use Rattle.df_book.specs.Draws.{draws_of}
use Rattle.df_book.specs.Views.{blank, longer_each, own_first, pooled, merged}
use Rattle.df_book.specs.Rule.{IsDrawn, pair_of, Owner, Fits, second, Kept}
use Rattle.df_book.specs.declared.draw.Draw.{Draw}
use Rattle.df_book.specs.declared.view.View.{View}
use Rattle.df_book.proofs.Sums.{Each-map, Each-append, total-append, total-set, append-empty, total-pairs}
use Rattle.df_book.proofs.Logs.{whole-left, whole-right, at-longer, at-own, within-longer, within-left, within-right}
use Rattle.df_book.proofs.Moves.{each-set}

-- two seats become one
pooled-same : (logs : List (List Entry)) (v w : View) → Within v.seen logs → Within w.seen logs → Each (Owner logs v) v.owns → Each (Owner logs w) w.owns → (s : ℕ) → at_log (pooled v w) s ≡ at_log (longer_each v.seen w.seen) s
pooled-same logs v w p q a b = at-own (λ s. at_log (longer_each v.seen w.seen) s) v.owns v.seen (own_first w.owns w.seen (longer_each v.seen w.seen))
    (Each-map (Owner logs v) (λ (s : ℕ). at_log v.seen s ≡ at_log (longer_each v.seen w.seen) s) (λ s o. o.0 ∙ sym (at-longer v.seen w.seen s ∙ ap (λ (l : List Entry). longer l (at_log w.seen s)) o.0 ∙ whole-left (at_log logs s) (at_log w.seen s) (q s))) v.owns a)
    (at-own (λ s. at_log (longer_each v.seen w.seen) s) w.owns w.seen (longer_each v.seen w.seen)
    (Each-map (Owner logs w) (λ (s : ℕ). at_log w.seen s ≡ at_log (longer_each v.seen w.seen) s) (λ s o. o.0 ∙ sym (at-longer v.seen w.seen s ∙ ap (longer (at_log v.seen s)) o.0 ∙ whole-right (at_log v.seen s) (at_log logs s) (p s))) w.owns b)
    (λ s. refl))

owner-left : (logs : List (List Entry)) (v w : View) → ((s : ℕ) → at_log (pooled v w) s ≡ at_log (longer_each v.seen w.seen) s) → Within w.seen logs → (s : ℕ) → Owner logs v s → Owner logs (merged v w) s
owner-left logs v w same q s o = (
  same s ∙ at-longer v.seen w.seen s ∙ ap (λ (l : List Entry). longer l (at_log w.seen s)) o.0 ∙ whole-left (at_log logs s) (at_log w.seen s) (q s),
  λ m. omega (arith, o.1 m, total-append (pair_of s m) v.counted (w.counted ++ map (λ (x : ℕ). (head_or 0 v.owns, x)) w.runs)),
)

owner-right : (logs : List (List Entry)) (v w : View) → ((s : ℕ) → at_log (pooled v w) s ≡ at_log (longer_each v.seen w.seen) s) → Within v.seen logs → (s : ℕ) → Owner logs w s → Owner logs (merged v w) s
owner-right logs v w same p s o = (
  same s ∙ at-longer v.seen w.seen s ∙ ap (longer (at_log v.seen s)) o.0 ∙ whole-right (at_log v.seen s) (at_log logs s) (p s),
  λ m. omega (arith, o.1 m, total-append (pair_of s m) v.counted (w.counted ++ map (λ (x : ℕ). (head_or 0 v.owns, x)) w.runs), total-append (pair_of s m) w.counted (map (λ (x : ℕ). (head_or 0 v.owns, x)) w.runs)),
)

fits-both : (book : List Draw) (logs : List (List Entry)) (v w : View) → w.first ≡ 0 → Fits book logs v → Fits book logs w → Fits book logs (merged v w)
fits-both book logs v w plain f g =
    let same = pooled-same logs v w f.seen g.seen f.owner g.owner in
    record {
      own = Each-append (IsDrawn book) v.own w.own f.own g.own;
      known = Each-append (IsDrawn book) v.known w.known f.known g.known;
      seen = λ s. subst (λ (l : List Entry). IsPrefix l (at_log logs s)) (sym (same s)) (within-longer v.seen w.seen logs f.seen g.seen s);
      left = λ s. subst (IsPrefix (at_log v.seen s)) (sym (same s)) (within-left v.seen w.seen s);
      right = λ s. subst (IsPrefix (at_log w.seen s)) (sym (same s)) (within-right v.seen w.seen logs f.seen g.seen s);
      owner = Each-append (Owner logs (merged v w)) v.owns w.owns (Each-map (Owner logs v) (Owner logs (merged v w)) (owner-left logs v w same g.seen) v.owns f.owner) (Each-map (Owner logs w) (Owner logs (merged v w)) (owner-right logs v w same f.seen) w.owns g.owner);
      caller = λ a b. let e = append-empty v.sessions w.sessions b in let x = f.caller a e.0 in let y = g.caller plain e.1 in (ap (λ (l : List Draw). l ++ w.own) x.0 ∙ y.0, omega (arith, x.1, y.1), ap (λ (l : List ℕ). l ++ w.made) x.2 ∙ y.2);
      splits = f.splits;
      made = let both : (y : ℕ) → draws_of y (v.own ++ w.own) ≡ draws_of y v.own + draws_of y w.own = λ y. total-append (λ (z : Draw). hit y z.number) v.own w.own in
          Each-append (λ (y : ℕ). 0 < draws_of y (v.own ++ w.own)) v.made w.made
          (Each-map (λ (y : ℕ). 0 < draws_of y v.own) (λ (y : ℕ). 0 < draws_of y (v.own ++ w.own)) (λ y h. omega (arith, h, both y)) v.made f.made)
          (Each-map (λ (y : ℕ). 0 < draws_of y w.own) (λ (y : ℕ). 0 < draws_of y (v.own ++ w.own)) (λ y h. omega (arith, h, both y)) w.made g.made);
    }

fits-blank : (book : List Draw) (logs : List (List Entry)) → Fits book logs blank
fits-blank book logs = record { own = tt; known = tt; seen = λ s. tt; left = λ s. tt; right = λ s. tt; owner = tt; caller = λ a b. (refl, refl, refl); splits = λ a. refl; made = tt }

pub merges : (n id : ℕ) (v : View) (other : ℕ) (w : View) → w.first ≡ 0 → Joins (Kept n) id v other w (merged v w) blank
merges n id v other w plain s k at apart there =
    let b = merged v w in let vs : List View = set s.views id b in
    let theirs : get_elem? s.views other ≡ some w = ⊎_elim (λ (t : (other ≡ id) × (b ≡ w)). absurd (apart t.0)) (λ (t : (other ≢ id) × (get_elem? s.views other ≡ some w)). t.1) (at_set s.views id other b w there) in
    let sum : (g : View → ℕ) → total g (set vs other blank) + g v + g w ≡ total g s.views + g b + g blank = λ g. omega (arith, total-set g vs other w blank there, total-set g s.views id v b at) in
    let splits : total (λ (u : View). u.splits) (set vs other blank) ≡ total (λ (u : View). u.splits) s.views = omega (arith, (k.each other w theirs).splits plain, sum (λ (u : View). u.splits)) in
    record {
      book = k.book;
      logs = k.logs;
      wide = k.wide;
      counter = k.counter;
      lengths = k.lengths;
      numbered = k.numbered;
      room = omega (arith, k.room, sum (λ (u : View). u.budget));
      owned = λ f. omega (arith, k.owned f, sum (λ (u : View). total f u.own), total-append f v.own w.own);
      seated = λ f. omega (arith, k.seated f, sum (λ (u : View). total f u.sessions), total-append f v.sessions w.sessions, ap (below f) splits);
      one_first = omega (arith, k.one_first, sum (λ (u : View). u.first), plain);
      shelved = λ f. omega (arith, k.shelved f, sum (λ (u : View). total f u.owns), total-append f v.owns w.owns);
      running = λ f. omega (
        arith,
        k.running f,
        sum (λ (u : View). total f u.runs),
        sum (λ (u : View). total (second f) u.counted),
        sum (λ (u : View). total f u.made),
        total-append f v.made w.made,
        total-append (second f) v.counted (w.counted ++ map (λ (x : ℕ). (head_or 0 v.owns, x)) w.runs),
        total-append (second f) w.counted (map (λ (x : ℕ). (head_or 0 v.owns, x)) w.runs),
        total-pairs f (head_or 0 v.owns) w.runs,
      );
      entered = k.entered;
      inside = k.inside;
      each = each-set (Fits k.book k.logs) vs other blank (λ j u _ e. each-set (Fits k.book k.logs) s.views id b (λ i y _ d. k.each i y d) (fits-both k.book k.logs v w plain (k.each id v at) (k.each other w theirs)) j u e) (fits-blank k.book k.logs);
    }
