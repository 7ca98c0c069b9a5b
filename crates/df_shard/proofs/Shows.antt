-- What a receipt shows of the entry that was made last.
use Rattle.std.proofs.Common.{◌≡◌, ◌≢◌, ℕ, Bool, true, false, not, ◌&&◌, cond, List, [], ◌∷◌, ◌++◌, inl, inr, refl, sym, ap, ◌∙◌, subst, eq-eqb, ne_eqb}
use Rattle.std.specs.Prelude.{Some, None, ◌==◌, ◌||◌}
use mathlib.Core.Logic.{dite}
use native.Mathlib.Decide.{ℕ_discrete}
use Rattle.df_order.specs.Lists.{Has, cons_if}
use Rattle.df_log.specs.Entries.{is_note, acts_of}
use Rattle.df_log.specs.declared.entry.Entry.{Entry}
use Rattle.df_book.specs.Logs.{is_passed}
use Rattle.df_hops.specs.Shown.{entry_at, was_passed}
use Rattle.df_shard.proofs.Bare.{and-false}

neither : (a b : Bool) → (a && (false && b)) ≡ false
neither true b = refl
neither false b = refl

-- an entry of another number or hop, or a note, isn't the one
skips : (f : Entry) (n hop : ℕ) (b : Bool) → is_note f.act ≡ b → (not b ≡ true → f.number ≡ n → f.hop ≢ hop) →
    ((f.number == n) && ((f.hop == hop) && not (is_note f.act))) ≡ false
skips f n hop true note ne = ap (λ b. (f.number == n) && ((f.hop == hop) && not b)) note ∙ and-false (f.number == n) (f.hop == hop)
skips f n hop false note ne = dite (ℕ_discrete f.number n)
    (λ (is : f.number ≡ n). ap (λ b. (f.number == n) && (b && not (is_note f.act))) (ne_eqb f.hop hop (ne refl is)) ∙ neither (f.number == n) (not (is_note f.act)))
    (λ (no : f.number ≢ n). ap (λ b. b && ((f.hop == hop) && not (is_note f.act))) (ne_eqb f.number n no))

behind : (f : Entry) (b : Bool) (log : List Entry) (g : Entry) → Has log g → Has (cons_if b f log) g
behind f true log g h = inr h
behind f false log g h = h

-- the first entry of a number and hop is found
pub found-last : (log : List Entry) (e : Entry) → is_note e.act ≡ false →
    ((f : Entry) → Has (acts_of log) f → f.number ≡ e.number → f.hop ≢ e.hop) →
    entry_at e.number e.hop (log ++ e ∷ []) ≡ Some e
found-last [] e act none =
    ap (λ b. cond b (Some e) None) ((λ j. eq-eqb e.number e.number refl j && (eq-eqb e.hop e.hop refl j && not (act j))))
found-last (f ∷ log) e act none =
    ap (λ b. cond b (Some f) (entry_at e.number e.hop (log ++ e ∷ [])))
    (skips f e.number e.hop (is_note f.act) refl (λ b. none f (subst (λ c. Has (cons_if c f (acts_of log)) f) (sym b) (inl refl))))
    ∙ found-last log e act (λ g h. none g (behind f (not (is_note f.act)) (acts_of log) g h))

pub passed-last : (log : List Entry) (e : Entry) → is_passed e.act ≡ true → was_passed e.number (log ++ e ∷ []) ≡ true
passed-last [] e p = λ j. (eq-eqb e.number e.number refl j && p j) || false
passed-last (f ∷ log) e p = ap (λ b. ((f.number == e.number) && is_passed f.act) || b) (passed-last log e p) ∙ or-true ((f.number == e.number) && is_passed f.act)
  where
    or-true : (b : Bool) → (b || true) ≡ true
    or-true true = refl
    or-true false = refl
