-- What an answer did is what its caller asked for.
use Rattle.std.proofs.Common.{◌≡◌, ◌≢◌, ℕ, ◌<◌, Bool, true, false, cond, ltb, List, [], ◌∷◌, ◌++◌, inl, inr, refl, sym, ap, ◌∙◌, subst, arith, eq-eqb, ne_eqb}
use Rattle.std.specs.Prelude.{Some, if◌then◌else◌}
use mathlib.Core.Logic.{dite}
use native.Mathlib.Decide.{ℕ_discrete}
use Rattle.df_order.specs.Model.{own}
use Rattle.df_log.specs.Entries.{acts_of}
use Rattle.df_log.specs.declared.entry.Entry.{Entry}
use Rattle.df_core.specs.Calls.{calls}
use Rattle.df_core.specs.Steps.{Step, step_of, steps_of}
use Rattle.df_core.specs.Due.{due}
use Rattle.df_core.specs.OneDue.{Comparable}
use Rattle.df_core.proofs.OneDueLaws.{one_due}
use Rattle.df_book.specs.Logs.{at_log, Within}
use Rattle.df_book.specs.Draws.{draws_of, call_at, OwnAgreed}
use Rattle.df_book.specs.declared.draw.Draw.{Draw}
use Rattle.df_book.proofs.Sums.{hit-else}
use Rattle.df_book.proofs.Logs.{within-trans}
use Rattle.df_end.specs.Logs.{entries_in}
use Rattle.df_end.specs.Asked.{AnswersAreDue}
use Rattle.df_end.proofs.EntryLaws.{rest-of}
use Rattle.df_end.proofs.RoundLaws.{own-append}

abbrev tail-of : List Step → List Step
tail-of [] = []
tail-of (x ∷ xs) = xs

abbrev head-or : Step → List Step → Step
head-or d [] = d
head-or d (x ∷ xs) = x

near-prefixes : (xs ys ms ns : List Step) → xs ++ ms ≡ ys ++ ns → Comparable xs ys
near-prefixes [] ys ms ns e = inl (ys, refl)
near-prefixes (x ∷ xs) [] ms ns e = inr (x ∷ xs, refl)
near-prefixes (x ∷ xs) (y ∷ ys) ms ns e =
    let same : x ≡ y = ap (head-or x) e in
    elim (near-prefixes xs ys ms ns (ap tail-of e)) [
      | inl m ↦ inl (m.0, λ j. sym same j ∷ m.1 j)
      | inr m ↦ inr (m.0, λ j. same j ∷ m.1 j)
    ]

pub steps-append : (xs ys : List Entry) → steps_of (xs ++ ys) ≡ steps_of xs ++ steps_of ys
steps-append [] ys = refl
steps-append (x ∷ xs) ys = ap (λ l. step_of x ∷ l) (steps-append xs ys)

-- what was seen of a number is a beginning of what is seen of it later
steps-more : (shards n : ℕ) (a b : List (List Entry)) → Within a b → (t : ℕ) →
    (more : List Step) × (steps_of (entries_in shards b n t) ≡ steps_of (entries_in shards a n t) ++ more)
steps-more shards n a b within t = go (ltb t shards)
  where
    go : (c : Bool) → (more : List Step) × (steps_of (own (calls shards) n (if c then acts_of (at_log b t) else [])) ≡ steps_of (own (calls shards) n (if c then acts_of (at_log a t) else [])) ++ more)
    go false = ([], refl)
    go true =
        let rest = rest-of (at_log a t) (at_log b t) (within t) in (
          steps_of (own (calls shards) n (acts_of rest.0)),
          ap (λ l. steps_of (own (calls shards) n (acts_of l))) rest.1
              ∙ ap steps_of (own-append shards n (at_log a t) rest.0)
              ∙ steps-append (own (calls shards) n (acts_of (at_log a t))) (own (calls shards) n (acts_of rest.0)),
        )

pub answers_are_due : AnswersAreDue
answers_are_due shards v u r n hop asked act part both mine agreed due-now =
    one_due shards (call_at v.own n) (λ t. steps_of (entries_in shards part.seen n t)) (λ t. steps_of (entries_in shards v.seen n t)) r.shard hop act asked
    (λ t.
    let a = steps-more shards n part.seen u.seen (within-trans part.seen r.seen u.seen part.within both.second) t in
    let b = steps-more shards n v.seen u.seen both.first t in
    near-prefixes (steps_of (entries_in shards part.seen n t)) (steps_of (entries_in shards v.seen n t)) a.0 b.0 (sym a.1 ∙ b.1))
    (subst (λ c. due shards c (λ t. steps_of (entries_in shards part.seen n t)) r.shard hop ≡ Some act) (call-is r.known agreed part.told) part.is_due) due-now
  where
    call-is : (known : List Draw) → OwnAgreed v.own known → 0 < draws_of n known → call_at known n ≡ call_at v.own n
    call-is [] e h = absurd (omega (arith, h))
    call-is (d ∷ known) e h = dite (ℕ_discrete d.number n)
        (λ (is : d.number ≡ n).
        ap (λ b. cond b d.call (call_at known n)) (eq-eqb d.number n is) ∙ sym (e.0 (subst (λ m. 0 < draws_of m v.own) (sym is) mine)) ∙ ap (call_at v.own) is)
        (λ (ne : d.number ≢ n).
        ap (λ b. cond b d.call (call_at known n)) (ne_eqb d.number n ne) ∙ call-is known e.1 (omega (arith, h, hit-else n d.number ne)))
