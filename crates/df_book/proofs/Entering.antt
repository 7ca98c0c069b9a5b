-- An entry keeps the rule.
use Rattle.std.proofs.Common.{cond, eq-eqb, ne_eqb, ◌≡◌, ◌≢◌, ℕ, zero, suc, ◌+◌, ◌%◌, ◌^◌, ◌<◌, ◌≤◌, List, [], ◌∷◌, ◌++◌, length, get_or, set, sym, refl, ap, ◌∙◌, subst, arith, length-append, length-set, get_or-set_same, get_or-set_other}
use Rattle.std.specs.Prelude.{slice_index}
use mathlib.Core.Option.{some, none}
use mathlib.Core.Logic.{dite}
use native.Mathlib.Decide.{ℕ_discrete}
use lib.ListN.{get_elem?}
use Rattle.atomic_table.specs.Table.{step, keeps, Allows}
use Rattle.df_log.specs.declared.entry.Entry.{Entry}
use Rattle.df_book.specs.Weights.{total, Each, hit, head_or}
use Rattle.df_book.specs.Logs.{at_log, with_log, IsPrefix, uses, use_of}
use Rattle.df_book.specs.Draws.{draws_of}
use Rattle.df_book.specs.Views.{entered}
use Rattle.df_book.specs.Rule.{pair_of, Owner, Fits, Kept}
use Rattle.df_book.specs.Steps.{Sat, Entered}
use Rattle.df_book.specs.declared.draw.Draw.{Draw}
use Rattle.df_book.specs.declared.view.Note.{Note}
use Rattle.df_book.specs.declared.view.Note.TheVariants as note
use Rattle.df_book.specs.declared.view.View.{View}
use Rattle.df_book.proofs.Sums.{Each-append, Each-two, total-append, term_le, terms_le, hit-same, below-hit, below-inside, no-hit}
use Rattle.df_book.proofs.Logs.{prefix-refl, at-with, at-with_else, within-with, within-grown}
use Rattle.df_book.proofs.Moves.{St, moved-one, same-sessions}
use Rattle.df_book.proofs.Numbers.{range-of}

-- a running ticket of the entry's number is left
abbrev pub RoomFor : View → Entry → Type 0
RoomFor v e = 0 < uses e.act → total (use_of e.number) (at_log v.seen (head_or 0 v.owns)) + uses e.act ≤ total (pair_of (head_or 0 v.owns) e.number) v.counted

-- an entry is entered in the one log that the seat owns
MayEnter : View → Entry → Type 0
MayEnter v e = (0 < draws_of e.number v.known) × RoomFor v e

others-apart : (n : ℕ) (s : St) (k : Kept n s) (id : ℕ) (v : View) (h : ℕ) → v.owns ≡ h ∷ [] → get_elem? s.views id ≡ some v → (j : ℕ) (u : View) → j ≢ id → get_elem? s.views j ≡ some u → Each (λ (x : ℕ). x ≢ h) u.owns
others-apart n s k id v h one at j u apart e = no-hit h u.owns (omega (
  arith,
  terms_le (λ (x : View). total (hit h) x.owns) s.views id j v u apart at e,
  k.shelved (hit h),
  (below-hit h n).0,
  ap (total (hit h)) one,
  hit-same h,
))

owner-apart : (logs : List (List Entry)) (u : View) (h : ℕ) (more : List Entry) (j : ℕ) → Owner logs u j → j ≢ h → Owner (with_log logs h (at_log logs h ++ more)) u j
owner-apart logs u h more j o apart = let e = sym (at-with_else logs h (at_log logs h ++ more) j apart) in (o.0 ∙ e, λ m. subst (λ (l : List Entry). total (use_of m) l ≤ total (pair_of j m) u.counted) e (o.1 m))

fits-grown : (book : List Draw) (logs : List (List Entry)) (u : View) (h : ℕ) (more : List Entry) → Each (λ (x : ℕ). x ≢ h) u.owns → Fits book logs u → Fits book (with_log logs h (at_log logs h ++ more)) u
fits-grown book logs u h more apart f = record {
  own = f.own;
  known = f.known;
  seen = within-grown u.seen logs h more f.seen;
  left = f.left;
  right = f.right;
  owner = Each-two (Owner logs u) (λ (x : ℕ). x ≢ h) (Owner (with_log logs h (at_log logs h ++ more)) u) (owner-apart logs u h more) u.owns f.owner apart;
  caller = f.caller;
  splits = f.splits;
  made = f.made;
}

used-still : (h : ℕ) (v : View) (log : List Entry) (e : Entry) → (0 < uses e.act → total (use_of e.number) log + uses e.act ≤ total (pair_of h e.number) v.counted) → ((m : ℕ) → total (use_of m) log ≤ total (pair_of h m) v.counted)
    → (m : ℕ) → total (use_of m) (log ++ e ∷ []) ≤ total (pair_of h m) v.counted
used-still h v log e may old m = dite (ℕ_discrete e.number m)
    (λ (same : e.number ≡ m).
    let here : use_of m e ≡ uses e.act = ap (λ b. cond b (uses e.act) 0) (eq-eqb e.number m same) in
    let at-m = ap (λ (x : ℕ). total (use_of x) log) same in let pairs = ap (λ (x : ℕ). total (pair_of h x) v.counted) same in
    split m here at-m pairs (uses e.act) refl)
    (λ (other : e.number ≢ m). let none-here : use_of m e ≡ 0 = ap (λ b. cond b (uses e.act) 0) (ne_eqb e.number m other) in omega (arith, old m, total-append (use_of m) log (e ∷ [])))
  where
    split : (m : ℕ) → use_of m e ≡ uses e.act → total (use_of e.number) log ≡ total (use_of m) log → total (pair_of h e.number) v.counted ≡ total (pair_of h m) v.counted → (x : ℕ) → uses e.act ≡ x → total (use_of m) (log ++ e ∷ []) ≤ total (pair_of h m) v.counted
    split m here a b zero is = omega (arith, old m, here, is, total-append (use_of m) log (e ∷ []))
    split m here a b (suc x) is = omega (arith, may (omega (arith, is)), here, a, b, total-append (use_of m) log (e ∷ []))

fits-entered : (book : List Draw) (logs : List (List Entry)) (v : View) (e : Entry) → v.owns ≡ head_or 0 v.owns ∷ [] → MayEnter v e → Fits book logs v
    → Fits book (with_log logs (head_or 0 v.owns) (at_log logs (head_or 0 v.owns) ++ e ∷ [])) (entered v e)
unfolding MayEnter
fits-entered book logs v e one may f =
    let h = head_or 0 v.owns in let logs' = with_log logs h (at_log logs h ++ e ∷ []) in
    let o : Owner logs v h = (subst (Each (Owner logs v)) one f.owner).0 in
    let same : at_log v.seen h ++ e ∷ [] ≡ at_log logs' h = ap (λ (l : List Entry). l ++ e ∷ []) o.0 ∙ sym (at-with logs h (at_log logs h ++ e ∷ [])) in
    let mine : Owner logs' (entered v e) h = (
      at-with v.seen h (at_log v.seen h ++ e ∷ []) ∙ same,
      λ m. subst (λ (l : List Entry). total (use_of m) l ≤ total (pair_of h m) v.counted) same (used-still h v (at_log v.seen h) e may.1 (λ x. subst (λ (l : List Entry). total (use_of x) l ≤ total (pair_of h x) v.counted) (sym o.0) (o.1 x)) m),
    ) in
    record {
      own = f.own;
      known = f.known;
      seen = within-with v.seen logs' h (at_log v.seen h ++ e ∷ []) (within-grown v.seen logs h (e ∷ []) f.seen) (subst (IsPrefix (at_log v.seen h ++ e ∷ [])) same (prefix-refl (at_log v.seen h ++ e ∷ [])));
      left = within-grown v.left v.seen h (e ∷ []) f.left;
      right = within-grown v.right v.seen h (e ∷ []) f.right;
      owner = subst (Each (Owner logs' (entered v e))) (sym one) (mine, tt);
      caller = f.caller;
      splits = f.splits;
      made = f.made;
    }

longer-mod : (x l : ℕ) → x ≡ l % 2 ^ 64 → (x + 1) % 2 ^ 64 ≡ (l + 1) % 2 ^ 64
longer-mod x l e = omega (arith, e)

entered-kept : (n : ℕ) (s : St) (k : Kept n s) (id : ℕ) (v : View) (e : Entry) → v.owns ≡ head_or 0 v.owns ∷ [] → MayEnter v e → get_elem? s.views id ≡ some v
    → Kept n record { words = set s.words (suc (head_or 0 v.owns)) ((get_or s.words (suc (head_or 0 v.owns)) 0 + 1) % 2 ^ 64); homes = s.homes; views = set s.views id (entered v e) }
unfolding MayEnter
entered-kept n s k id v e one may at =
    let h = head_or 0 v.owns in let w = entered v e in let log = at_log k.logs h in
    let logs' = with_log k.logs h (log ++ e ∷ []) in
    let x : ℕ = get_or s.words (suc h) 0 in
    let f = k.each id v at in
    let good : (0 < e.number) × (e.number < suc (length k.book)) = range-of k.book k.numbered v.known f.known e.number may.0 in
    let inside : h < n = below-inside h n (omega (arith, k.shelved (hit h), term_le (λ (u : View). total (hit h) u.owns) s.views id v at, ap (total (hit h)) one, hit-same h)) in
    moved-one n s k id v w (set s.words (suc h) ((x + 1) % 2 ^ 64)) k.book logs' record {
      at = at;
      wide = length-set s.words (suc h) ((x + 1) % 2 ^ 64) ∙ k.wide;
      counter = get_or-set_other s.words (suc h) 0 ((x + 1) % 2 ^ 64) 0 (λ z. omega arith) ∙ k.counter;
      lengths = λ i b. dite (ℕ_discrete i h)
          (λ (is : i ≡ h). subst (λ (y : ℕ). slice_index (set s.words (suc h) ((x + 1) % 2 ^ 64)) (suc y) ≡ length (at_log logs' y) % 2 ^ 64) (sym is)
          (get_or-set_same s.words (suc h) ((x + 1) % 2 ^ 64) 0 (omega (arith, k.wide, inside)) ∙ longer-mod x (length log) (k.lengths h inside) ∙ ap (λ (y : ℕ). y % 2 ^ 64) (sym (ap length (at-with k.logs h (log ++ e ∷ [])) ∙ length-append log (e ∷ [])))))
          (λ (no : i ≢ h). get_or-set_other s.words (suc h) (suc i) ((x + 1) % 2 ^ 64) 0 (λ z. no (omega (arith, z))) ∙ k.lengths i b ∙ ap (λ (l : List Entry). length l % 2 ^ 64) (sym (at-with_else k.logs h (log ++ e ∷ []) i no)));
      numbered = k.numbered;
      room = omega arith;
      owned = λ g. omega arith;
      seated = same-sessions n s k id v w [] at refl refl refl (λ g. refl);
      one_first = omega arith;
      shelved = λ g. omega arith;
      running = λ g. omega arith;
      entered = λ i. dite (ℕ_discrete i h)
          (λ (is : i ≡ h). subst (λ (y : ℕ). Each (λ (z : Entry). (0 < z.number) × (z.number < suc (length k.book))) (at_log logs' y)) (sym is)
          (subst (Each (λ (z : Entry). (0 < z.number) × (z.number < suc (length k.book)))) (sym (at-with k.logs h (log ++ e ∷ []))) (Each-append (λ (z : Entry). (0 < z.number) × (z.number < suc (length k.book))) log (e ∷ []) (k.entered h) (good, tt))))
          (λ (no : i ≢ h). subst (Each (λ (z : Entry). (0 < z.number) × (z.number < suc (length k.book)))) (sym (at-with_else k.logs h (log ++ e ∷ []) i no)) (k.entered i));
      inside = λ i b. at-with_else k.logs h (log ++ e ∷ []) i (λ z. omega (arith, z, b, inside)) ∙ k.inside i b;
      others = λ j u apart d. fits-grown k.book k.logs u h (e ∷ []) (others-apart n s k id v h one at j u apart d) (k.each j u d);
      mine = fits-entered k.book k.logs v e one may f;
      theirs = tt;
    }

entry-or : Entry → Note → Entry
entry-or d (note.Enter e) = e
entry-or d _ = d

enters-at : (n slots id : ℕ) (m : Sat) (e : Entry) → m.0.note ≡ note.Enter e → m.0.owns ≡ head_or 0 m.0.owns ∷ [] → MayEnter m.0 e
    → Allows (Kept n) slots id m (suc (head_or 0 m.0.owns)) (λ x. (x + 1) % 2 ^ 64) (Entered (step slots (suc (head_or 0 m.0.owns)) 1 0 none) m)
unfolding entry-or
enters-at n slots id m e noted one may s k deep at low = (entered m.0 e, keeps, tt, entered-kept n s k id m.0 e one may at, λ e' is. ap (λ (y : Entry). (entered m.0 y, m.1)) (ap (entry-or e) (sym noted ∙ is)))

pub enters : (n slots id : ℕ) (m : Sat) (e : Entry) (shard word : ℕ) → word ≡ suc shard → m.0.note ≡ note.Enter e → m.0.owns ≡ shard ∷ [] → 0 < draws_of e.number m.0.known → RoomFor m.0 e
    → Allows (Kept n) slots id m word (λ x. (x + 1) % 2 ^ 64) (Entered (step slots word 1 0 none) m)
unfolding MayEnter
enters n slots id m e shard word is noted owns knows room =
    let h : head_or 0 m.0.owns ≡ shard = ap (head_or 0) owns in
    subst (λ (y : ℕ). Allows (Kept n) slots id m y (λ x. (x + 1) % 2 ^ 64) (Entered (step slots y 1 0 none) m)) (ap suc h ∙ sym is)
    (enters-at n slots id m e noted (owns ∙ ap (λ (y : ℕ). y ∷ []) (sym h)) (knows, room))
