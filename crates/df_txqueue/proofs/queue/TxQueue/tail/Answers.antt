use Rattle.std.proofs.Common.{◌≡◌, ◌<◌, ◌-◌, suc, length, get_or, ap, sym, subst, ◌∙◌, arith, rules}
use Rattle.std.specs.Prelude.{Some}
use Rattle.df_txqueue.specs.Places.{IsGreatest, last_number}
use Rattle.df_txqueue.proofs.PlaceLaws.{last_at, greatest_at}
use Rattle.df_txqueue.proofs.queue.TxQueue.tail.Goals as goal

pub returns-in-Some-clause-last : goal.returns-in-Some-clause-last
returns-in-Some-clause-last c =
    let places = c.self.inside.ring.items in
    let place = c.in-Some.place.now in
    let within : 0 < length places = search rules in
    let end : suc (length places - 1) ≡ length places = omega (arith, within) in
    let is : place ≡ get_or places (length places - 1) place = search rules in
    ap (λ p. Some p.number) is ∙ sym (last_at places (length places - 1) place end) ∙ ap (λ q. last_number q.places) c.self.view_is

pub returns-in-Some-clause-newest : goal.returns-in-Some-clause-newest
returns-in-Some-clause-newest c =
    let places = c.self.inside.ring.items in
    let place = c.in-Some.place.now in
    let within : 0 < length places = search rules in
    let is : place ≡ get_or places (length places - 1) place = search rules in
    subst (λ q. IsGreatest place.number q.places) c.self.view_is
    (subst (λ p. IsGreatest p.number places) (sym is) (greatest_at places (length places - 1) place c.self.invariant (omega (arith, within))))
