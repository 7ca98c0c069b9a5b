-- A drawn number keeps the rule.
use Rattle.std.proofs.Common.{◌≡◌, ℕ, suc, ◌+◌, ◌%◌, ◌^◌, ◌<◌, ◌≤◌, List, [], ◌∷◌, ◌++◌, length, get_or, set, sym, refl, ap, ◌∙◌, ⊎_elim, arith, length-append, length-set, get_or-set_same, get_or-set_other}
use mathlib.Core.Option.{some, none}
use lib.ListN.{get_elem?}
use Rattle.atomic_table.specs.Table.{step, keeps, Allows}
use Rattle.df_model.specs.declared.command.Call.{Call}
use Rattle.df_log.specs.declared.entry.Entry.{Entry}
use Rattle.df_book.specs.Weights.{total, hit}
use Rattle.df_book.specs.Logs.{at_log}
use Rattle.df_book.specs.Draws.{draws_of}
use Rattle.df_book.specs.Views.{new_draw, drawn}
use Rattle.df_book.specs.Rule.{IsDrawn, Fits, Kept}
use Rattle.df_book.specs.Steps.{Sat, Drew}
use Rattle.df_book.specs.declared.draw.Draw.{Draw}
use Rattle.df_book.specs.declared.view.Note.{Note}
use Rattle.df_book.specs.declared.view.Note.TheVariants as note
use Rattle.df_book.specs.declared.view.View.{View}
use Rattle.df_book.proofs.Sums.{Each-map, Each-append, get-snoc, get-last, total-append, term_le}
use Rattle.df_book.proofs.Logs.{prefix-each}
use Rattle.df_book.proofs.Moves.{St, fits-more, moved-one, same-sessions}
use Rattle.df_book.proofs.Numbers.{drawn-below, none-drawn, made-none}

-- a number is drawn
call-or : Call → Note → Call
call-or d (note.Draw c) = c
call-or d _ = d

wraps : (x : ℕ) → x < 2 ^ 63 → (x + 1) % 2 ^ 64 ≡ suc x
wraps x h = omega arith

fits-drawn : (book : List Draw) (logs : List (List Entry)) (v : View) (c : Call) (x : ℕ) → 0 < v.budget → Fits book logs v → Fits (book ++ new_draw v c x ∷ []) logs (drawn v c x)
fits-drawn book logs v c x left f = let d = new_draw v c x in let g = fits-more book (d ∷ []) logs v f in record {
  own = Each-append (IsDrawn (book ++ d ∷ [])) v.own (d ∷ []) g.own ((length book, get-last book d), tt);
  known = g.known;
  seen = f.seen;
  left = f.left;
  right = f.right;
  owner = f.owner;
  caller = λ a b. absurd (omega (arith, left, (f.caller a b).1));
  splits = f.splits;
  made = Each-map (λ (y : ℕ). 0 < draws_of y v.own) (λ (y : ℕ). 0 < draws_of y (v.own ++ d ∷ [])) (λ y h. omega (arith, h, total-append (λ (z : Draw). hit y z.number) v.own (d ∷ []))) v.made f.made;
}

drawn-kept : (n : ℕ) (s : St) (k : Kept n s) (id : ℕ) (v : View) (c : Call) → 0 < v.budget → get_elem? s.views id ≡ some v
    → Kept n record { words = set s.words 0 ((get_or s.words 0 0 + 1) % 2 ^ 64); homes = s.homes; views = set s.views id (drawn v c (get_or s.words 0 0)) }
drawn-kept n s k id v c left at =
    let x : ℕ = get_or s.words 0 0 in let d = new_draw v c x in let w = drawn v c x in
    let count : x ≡ suc (length k.book) = k.counter in
    let has : v.budget ≤ total (λ (u : View). u.budget) s.views = term_le (λ (u : View). u.budget) s.views id v at in
    let grown : length (k.book ++ d ∷ []) ≡ length k.book + 1 = length-append k.book (d ∷ []) in
    let small : x < 2 ^ 63 = omega (arith, count, k.room, left, has) in
    moved-one n s k id v w (set s.words 0 ((x + 1) % 2 ^ 64)) (k.book ++ d ∷ []) k.logs record {
      at = at;
      wide = length-set s.words 0 ((x + 1) % 2 ^ 64) ∙ k.wide;
      counter = get_or-set_same s.words 0 ((x + 1) % 2 ^ 64) 0 (omega (arith, k.wide)) ∙ wraps x small ∙ omega (arith, count, grown);
      lengths = λ i h. get_or-set_other s.words 0 (suc i) ((x + 1) % 2 ^ 64) 0 (λ e. omega arith) ∙ k.lengths i h;
      numbered = λ i e h. ⊎_elim (λ old. k.numbered i e old) (λ (t : (i ≡ length k.book) × (d ≡ e)). ap (λ (y : Draw). y.number) (sym t.1) ∙ omega (arith, count, t.0)) (get-snoc k.book d i e h);
      room = omega (arith, grown, left);
      owned = λ f. omega (arith, total-append f v.own (d ∷ []), total-append f k.book (d ∷ []));
      seated = same-sessions n s k id v w [] at refl refl refl (λ f. refl);
      one_first = omega arith;
      shelved = λ f. omega arith;
      running = λ f. omega arith;
      entered = λ i. Each-map (λ (e : Entry). (0 < e.number) × (e.number < suc (length k.book))) (λ (e : Entry). (0 < e.number) × (e.number < suc (length (k.book ++ d ∷ [])))) (λ e h. (h.0, omega (arith, grown, h.1))) (at_log k.logs i) (k.entered i);
      inside = k.inside;
      others = λ j u _ e. fits-more k.book (d ∷ []) k.logs u (k.each j u e);
      mine = fits-drawn k.book k.logs v c x left (k.each id v at);
      theirs = tt;
    }

pub draws : (n slots id : ℕ) (m : Sat) (c : Call) → m.0.note ≡ note.Draw c → 0 < m.0.budget → Allows (Kept n) slots id m 0 (λ x. (x + 1) % 2 ^ 64) (Drew (step slots 0 1 0 none) m)
unfolding call-or
draws n slots id m c noted left s k deep at low =
    let x : ℕ = get_or s.words 0 0 in let v = m.0 in
    let count : x ≡ suc (length k.book) = k.counter in
    let mine = k.each id v at in
    let has : v.budget ≤ total (λ (u : View). u.budget) s.views = term_le (λ (u : View). u.budget) s.views id v at in (
      drawn v c x,
      keeps,
      tt,
      drawn-kept n s k id v c left at,
      λ c' e. (
        ap (λ (y : Call). (drawn v y x, m.1)) (ap (call-or c) (sym noted ∙ e)),
        λ i. prefix-each (λ (y : Entry). y.number < x) (at_log v.seen i) (at_log k.logs i) (mine.seen i)
            (Each-map (λ (y : Entry). (0 < y.number) × (y.number < suc (length k.book))) (λ (y : Entry). y.number < x) (λ y h. omega (arith, count, h.1)) (at_log k.logs i) (k.entered i)),
        Each-map (IsDrawn k.book) (λ (d : Draw). d.number < x) (λ d h. omega (arith, count, (drawn-below k.book k.numbered d h).1)) v.own mine.own,
        omega (arith, count),
        omega (arith, count, k.room, left, has),
        made-none x v.own v.made mine.made (none-drawn x v.own (Each-map (IsDrawn k.book) (λ (d : Draw). d.number < x) (λ d h. omega (arith, count, (drawn-below k.book k.numbered d h).1)) v.own mine.own)),
      ),
    )
