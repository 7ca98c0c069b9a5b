use Rattle.std.proofs.Common.{◌≡◌, ◌∙◌, ℕ, true, refl, sym, subst, arith}
use Rattle.std.proofs.lemmas.Bool.{false≢true}
use Rattle.df_post.specs.Rounds.{Answered, Counts, Goes, Idle, Place, is_done, place_of, stays}
use Rattle.df_post.specs.declared.slot.Slot.{Slot}
use Rattle.df_post.proofs.slot.go.Goals as goal

-- where nothing is on its way there is nothing to count
done-counts : (p : Place) (n : ℕ) → is_done p ≡ true → Counts p p n n
done-counts p n is = record { kept = omega arith; rose = λ same going. absurd (false≢true (sym going ∙ is)) }

pub returns-in-Idle-clause-goes : goal.returns-in-Idle-clause-goes
returns-in-Idle-clause-goes g c = subst (λ (x : Slot). Goes (place_of x) Idle) (sym c.in-Idle.is) (stays Idle)

pub returns-in-Idle-clause-counts : goal.returns-in-Idle-clause-counts
returns-in-Idle-clause-counts g c =
    let n = (g.P.Post.posting c.args.post.now).stalls in
    subst (λ (x : Slot). Counts (place_of x) Idle n n) (sym c.in-Idle.is) (done-counts Idle n refl)

pub returns-in-Answered-clause-goes : goal.returns-in-Answered-clause-goes
returns-in-Answered-clause-goes g c =
    let a = c.in-Answered.awaited.value in
    subst (λ (x : Slot). Goes (place_of x) (Answered a)) (sym c.in-Answered.is) (stays (Answered a))

pub returns-in-Answered-clause-counts : goal.returns-in-Answered-clause-counts
returns-in-Answered-clause-counts g c =
    let n = (g.P.Post.posting c.args.post.now).stalls in let a = c.in-Answered.awaited.value in
    subst (λ (x : Slot). Counts (place_of x) (Answered a) n n) (sym c.in-Answered.is) (done-counts (Answered a) n refl)
