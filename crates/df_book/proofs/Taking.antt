-- The first pass takes over the logs.
use Rattle.std.proofs.Common.{◌≡◌, ℕ, ◌<◌, List, [], ◌∷◌, ◌++◌, length, sym, refl, ap, ◌∙◌, subst, arith}
use Rattle.df_book.specs.Weights.{Each, hit, count}
use Rattle.df_book.specs.Logs.{Within, BothSeen}
use Rattle.df_book.specs.Passes.{BookName, Shard}
use Rattle.df_book.specs.Shown.{shard_seen}
use Rattle.df_book.specs.Views.{pooled, merged, learned}
use Rattle.df_book.specs.Steps.{OwnsOnce, EachJoined}
use Rattle.df_book.specs.Taken.{IsTaken, all_known, TakesAll}
use Rattle.df_book.specs.declared.draw.Draw.{Draw}
use Rattle.df_book.specs.declared.view.View.{View}
use Rattle.df_book.proofs.Sums.{Each-map, Each-append, total-append, append-none, hit-same}
use Rattle.df_book.proofs.Logs.{own-here, own-else, within-refl, within-trans}
use Rattle.df_book.proofs.Showing.{both-seen}

pub takes-one : (z : BookName) (s : ℕ) (v w m : View) → w.owns ≡ s ∷ [] → w.own ≡ [] → w.made ≡ [] → m ≡ merged v w → Within m.left m.seen → Within m.right m.seen → OwnsOnce m → TakesAll v (shard_seen z s w ∷ []) (learned (merged v w))
takes-one z s v w m one bare none-made is p q once =
    let both : BothSeen v.seen w.seen (pooled v w) = subst (λ l. BothSeen v.seen w.seen l) (ap (λ (u : View). u.seen) is) (both-seen v w m is p q) in
    let here : 0 < count s w.owns = omega (arith, ap (count s) one, hit-same s) in
    let sum = total-append (hit s) v.owns w.owns in
    let not-mine : count s v.owns ≡ 0 = omega (arith, here, sum, subst OwnsOnce is once s) in
    record {
      first = refl;
      splits = refl;
      sessions = λ i. omega (arith, total-append (hit i) v.sessions w.sessions);
      own = ap (λ (l : List Draw). v.own ++ l) bare ∙ append-none v.own;
      made = ap (λ (l : List ℕ). v.made ++ l) none-made ∙ append-none v.made;
      known = ap (λ (l : List Draw). v.known ++ l) (sym (append-none w.known));
      before = both.first;
      theirs = (both.second, tt);
      taken = ((omega (arith, here, sum), own-else v.owns v.seen _ s not-mine ∙ own-here w.owns w.seen _ s here), tt);
      still = λ i h. (omega (arith, h, total-append (hit i) v.owns w.owns), own-here v.owns v.seen _ i h);
    }

pub takes-none : (v : View) → TakesAll v [] v
takes-none v = record {
  first = refl;
  splits = refl;
  sessions = λ i. omega arith;
  own = refl;
  made = refl;
  known = sym (append-none v.known);
  before = within-refl v.seen;
  theirs = tt;
  taken = tt;
  still = λ s h. (h, refl);
}

regrouped : (xs ys zs : List Draw) → (xs ++ ys) ++ zs ≡ xs ++ (ys ++ zs)
regrouped [] ys zs = refl
regrouped (x ∷ xs) ys zs = ap (λ (l : List Draw). x ∷ l) (regrouped xs ys zs)

known-append : (ps qs : List Shard) → all_known (ps ++ qs) ≡ all_known ps ++ all_known qs
known-append [] qs = refl
known-append (p ∷ ps) qs = ap (λ (l : List Draw). p.known ++ l) (known-append ps qs) ∙ sym (regrouped p.known (all_known ps) (all_known qs))

pub takes-more : (u v w : View) (ps qs : List Shard) → TakesAll u ps v → TakesAll v qs w → TakesAll u (ps ++ qs) w
takes-more u v w ps qs a b = record {
  first = b.first ∙ a.first;
  splits = b.splits ∙ a.splits;
  sessions = λ i. omega (arith, a.sessions i, b.sessions i);
  own = b.own ∙ a.own;
  made = b.made ∙ a.made;
  known = b.known ∙ ap (λ (l : List Draw). l ++ all_known qs) a.known ∙ regrouped u.known (all_known ps) (all_known qs) ∙ ap (λ (l : List Draw). u.known ++ l) (sym (known-append ps qs));
  before = within-trans u.seen v.seen w.seen a.before b.before;
  theirs = Each-append (λ (p : Shard). Within p.seen w.seen) ps qs (Each-map (λ (p : Shard). Within p.seen v.seen) (λ (p : Shard). Within p.seen w.seen) (λ p h. within-trans p.seen v.seen w.seen h b.before) ps a.theirs) b.theirs;
  taken = Each-append (IsTaken w) ps qs (Each-map (IsTaken v) (IsTaken w) (λ p h. let t = b.still p.shard h.0 in (t.0, t.1 ∙ h.1)) ps a.taken) b.taken;
  still = λ s h. let x = a.still s h in let y = b.still s x.0 in (y.0, y.1 ∙ x.1);
}

pub still-joined : (u v : View) (ps : List Shard) → TakesAll u ps v → EachJoined u → EachJoined v
still-joined u v ps a e = (a.first ∙ e.0, λ i h. omega (arith, a.sessions i, e.1 i (omega (arith, h, a.splits))))

pub each-mid : {A : Type 0} (P : A → Type 0) (xs : List A) (y : A) (ys : List A) → Each P (xs ++ y ∷ ys) → P y
each-mid P [] y ys e = e.0
each-mid P (x ∷ xs) y ys e = each-mid P xs y ys e.1

pub empty : {A : Type 0} (l : List A) → length l ≡ 0 → l ≡ []
empty [] e = refl
empty (x ∷ xs) e = absurd (omega (arith, e))

pub each-split : {A : Type 0} (P : A → Type 0) (xs ys : List A) → Each P (xs ++ ys) → Each P xs × Each P ys
each-split P [] ys e = (tt, e)
each-split P (x ∷ xs) ys e = let r = each-split P xs ys e.1 in ((e.0, r.0), r.1)

-- what holds of all that shards knew holds of what each of them knew
pub known-each : (P : Draw → Type 0) (ps : List Shard) → Each P (all_known ps) → Each (λ (p : Shard). Each P p.known) ps
known-each P [] e = tt
known-each P (p ∷ ps) e = let r = each-split P p.known (all_known ps) e in (r.0, known-each P ps r.1)
