-- What contracts see after a step.
use Rattle.std.proofs.Common.{◌≡◌, ◌≢◌, ◌⊎◌, ℕ, ◌+◌, ◌≤◌, List, [], ◌∷◌, ◌++◌, cond, eq-eqb, sym, refl, ap, ◌∙◌, subst, inl, inr, ⊎_elim, arith}
use mathlib.Core.Logic.{dite}
use native.Mathlib.Decide.{ℕ_discrete}
use Rattle.df_log.specs.declared.entry.Entry.{Entry}
use Rattle.df_book.specs.Weights.{total, Each, hit, count, head_or}
use Rattle.df_book.specs.Logs.{at_log, with_log, IsPrefix, Within, longer, BothSeen, uses, uses_of, HasRoom}
use Rattle.df_book.specs.Passes.{BookName, receipt_of, after_entry, after_ticket, met}
use Rattle.df_book.specs.Shown.{shard_seen, receipt_seen, ticket_seen, numbers_of}
use Rattle.df_book.specs.Views.{receipt_off, entered, longer_each, own_first, pooled, for_log, merged, learned}
use Rattle.df_book.specs.Rule.{pair_of}
use Rattle.df_book.specs.declared.view.View.{View}
use Rattle.df_book.proofs.Sums.{Each-append, hit-same}
use Rattle.df_book.proofs.Logs.{whole-left, whole-right, at-longer, at-with, at-with_else, own-here}
use Rattle.df_book.proofs.Entering.{RoomFor}

-- ---- two seats have become one

one-of : (ss : List ℕ) (xs ys : List (List Entry)) (s : ℕ) → (at_log (own_first ss xs ys) s ≡ at_log xs s) ⊎ (at_log (own_first ss xs ys) s ≡ at_log ys s)
one-of [] xs ys s = inr refl
one-of (j ∷ ss) xs ys s = dite (ℕ_discrete s j)
    (λ (is : s ≡ j). inl (subst (λ (i : ℕ). at_log (with_log (own_first ss xs ys) j (at_log xs j)) i ≡ at_log xs i) (sym is) (at-with (own_first ss xs ys) j (at_log xs j))))
    (λ (ne : s ≢ j). let e = at-with_else (own_first ss xs ys) j (at_log xs j) s ne in ⊎_elim (λ l. inl (e ∙ l)) (λ r. inr (e ∙ r)) (one-of ss xs ys s))

pooled-longer : (v w : View) (s : ℕ) → IsPrefix (at_log v.seen s) (at_log (pooled v w) s) → IsPrefix (at_log w.seen s) (at_log (pooled v w) s) → at_log (pooled v w) s ≡ longer (at_log v.seen s) (at_log w.seen s)
pooled-longer v w s p q =
    let a = at_log v.seen s in let b = at_log w.seen s in
    ⊎_elim (λ l. l ∙ sym (whole-left a b (subst (IsPrefix b) l q)))
    (λ r. ⊎_elim (λ l. r ∙ l ∙ sym (whole-right a b (subst (IsPrefix a) (r ∙ l) p))) (λ k. r ∙ k ∙ at-longer v.seen w.seen s) (one-of w.owns w.seen (longer_each v.seen w.seen) s))
    (one-of v.owns v.seen (own_first w.owns w.seen (longer_each v.seen w.seen)) s)

pub both-seen : (v w m : View) → m ≡ merged v w → Within m.left m.seen → Within m.right m.seen → BothSeen v.seen w.seen m.seen
both-seen v w m e p q =
    let p' : Within v.seen (pooled v w) = subst (λ (u : View). Within u.left u.seen) e p in
    let q' : Within w.seen (pooled v w) = subst (λ (u : View). Within u.right u.seen) e q in
    subst (λ (l : List (List Entry)). BothSeen v.seen w.seen l) (sym (ap (λ (u : View). u.seen) e)) record { first = p'; second = q'; longer = λ s. pooled-longer v w s (p' s) (q' s) }

-- ---- receipts

pub shows-longer : (z : BookName) (v w : View) → v.owns ≡ [] → w.owns ≡ [] → w.shows ≡ v.shows → receipt_seen z (learned (merged v w)) ≡ met (receipt_seen z v) (receipt_seen z w) (pooled v w)
shows-longer z v w a b same =
    let L = longer_each v.seen w.seen in
    let e : pooled v w ≡ L = ap (λ (o : List ℕ). own_first o v.seen (own_first w.owns w.seen L)) a ∙ ap (λ (o : List ℕ). own_first o w.seen L) b in
    let log : at_log (pooled v w) v.shows ≡ longer (at_log v.seen v.shows) (at_log w.seen w.shows) = ap (λ (l : List (List Entry)). at_log l v.shows) e ∙ at-longer v.seen w.seen v.shows ∙ ap (λ (s : ℕ). longer (at_log v.seen v.shows) (at_log w.seen s)) (sym same) in
    (λ i. record { book = z; shard = v.shows; log = log i; known = v.known ++ w.known; seen = pooled v w })

pub receipt-shows : (z : BookName) (s : ℕ) (v : View) → v.owns ≡ s ∷ [] → receipt_seen z (receipt_off v) ≡ receipt_of (shard_seen z s v)
receipt-shows z s v one = let h : head_or 0 v.owns ≡ s = ap (head_or 0) one in
    (λ i. record { book = z; shard = h i; log = at_log v.seen (h i); known = v.known; seen = v.seen })

-- ---- shards

pub numbers-append : (xs ys : List (ℕ × ℕ)) → numbers_of (xs ++ ys) ≡ numbers_of xs ++ numbers_of ys
numbers-append [] ys = refl
numbers-append (x ∷ xs) ys = ap (λ (l : List ℕ). x.1 ∷ l) (numbers-append xs ys)

numbers-for : (s : ℕ) (runs : List ℕ) → numbers_of (for_log s runs) ≡ runs
numbers-for s [] = refl
numbers-for s (n ∷ runs) = ap (λ (l : List ℕ). n ∷ l) (numbers-for s runs)

for-each : (s h : ℕ) (runs : List ℕ) → h ≡ s → Each (λ (p : ℕ × ℕ). p.0 ≡ s) (for_log h runs)
for-each s h [] e = tt
for-each s h (n ∷ runs) e = (e, for-each s h runs e)

pub counted-here : (s : ℕ) (v w : View) → v.owns ≡ s ∷ [] → w.counted ≡ [] → Each (λ (p : ℕ × ℕ). p.0 ≡ s) v.counted → Each (λ (p : ℕ × ℕ). p.0 ≡ s) (merged v w).counted
counted-here s v w one none-yet here = Each-append (λ (p : ℕ × ℕ). p.0 ≡ s) v.counted (w.counted ++ for_log (head_or 0 v.owns) w.runs) here
    (subst (λ (l : List (ℕ × ℕ)). Each (λ (p : ℕ × ℕ). p.0 ≡ s) (l ++ for_log (head_or 0 v.owns) w.runs)) (sym none-yet) (for-each s (head_or 0 v.owns) w.runs (ap (head_or 0) one)))

pub shard-takes : (z : BookName) (s : ℕ) (v w : View) → v.owns ≡ s ∷ [] → w.counted ≡ [] → shard_seen z s (learned (merged v w)) ≡ after_ticket (shard_seen z s v) (ticket_seen z w) (pooled v w)
shard-takes z s v w one none-yet =
    let log : at_log (pooled v w) s ≡ at_log v.seen s = own-here v.owns v.seen _ s (omega (arith, ap (count s) one, hit-same s)) in
    let counted : numbers_of (merged v w).counted ≡ numbers_of v.counted ++ w.runs = numbers-append v.counted (w.counted ++ for_log (head_or 0 v.owns) w.runs)
    ∙ ap (λ (l : List ℕ). numbers_of v.counted ++ l) (ap (λ (l : List (ℕ × ℕ)). numbers_of (l ++ for_log (head_or 0 v.owns) w.runs)) none-yet ∙ numbers-for (head_or 0 v.owns) w.runs) in
    (λ i. record { book = z; shard = s; log = log i; known = v.known ++ w.known; counted = counted i; seen = pooled v w })

pairs-here : (s n : ℕ) (pairs : List (ℕ × ℕ)) → Each (λ (p : ℕ × ℕ). p.0 ≡ s) pairs → total (pair_of s n) pairs ≡ count n (numbers_of pairs)
pairs-here s n [] e = refl
pairs-here s n (p ∷ pairs) e = let one : pair_of s n p ≡ hit n p.1 = ap (λ b. cond b (hit n p.1) 0) (eq-eqb s p.0 (sym e.0)) in omega (arith, one, pairs-here s n pairs e.1)

pub room-for : (s : ℕ) (v : View) (e : Entry) → v.owns ≡ s ∷ [] → Each (λ (p : ℕ × ℕ). p.0 ≡ s) v.counted → HasRoom (at_log v.seen s) (numbers_of v.counted) e → RoomFor v e
room-for s v e one here room h =
    let at : head_or 0 v.owns ≡ s = ap (head_or 0) one in
    subst (λ (i : ℕ). uses_of e.number (at_log v.seen i) + uses e.act ≤ total (pair_of i e.number) v.counted) (sym at) (omega (arith, room h, pairs-here s e.number v.counted here))

pub log-grows : (z : BookName) (s : ℕ) (v : View) (e : Entry) → v.owns ≡ s ∷ [] → shard_seen z s (entered v e) ≡ after_entry (shard_seen z s v) e
log-grows z s v e one =
    let at : head_or 0 v.owns ≡ s = ap (head_or 0) one in
    let seen : with_log v.seen (head_or 0 v.owns) (at_log v.seen (head_or 0 v.owns) ++ e ∷ []) ≡ with_log v.seen s (at_log v.seen s ++ e ∷ []) = ap (λ (i : ℕ). with_log v.seen i (at_log v.seen i ++ e ∷ [])) at in
    let log = ap (λ (l : List (List Entry)). at_log l s) seen ∙ at-with v.seen s (at_log v.seen s ++ e ∷ []) in
    (λ i. record { book = z; shard = s; log = log i; known = v.known; counted = numbers_of v.counted; seen = seen i })
