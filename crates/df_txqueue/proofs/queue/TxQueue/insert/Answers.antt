use Rattle.std.proofs.Common.{◌≡◌, ap, sym, subst, ◌∙◌}
use Rattle.std.specs.Prelude.{None}
use Rattle.df_txqueue.specs.Places.{Ascending, is_queued, with_place, place_of}
use Rattle.df_txqueue.proofs.PlaceLaws.{ascending_with, inserted_at, not_queued}
use Rattle.df_txqueue.proofs.queue.TxQueue.insert.Goals as goal

pub invariant_of-self : goal.invariant_of-self
invariant_of-self c =
    let place = c.args.place in
    let places = c.self.inside.ring.items in
    let absent : place_of place.number places ≡ None = not_queued place.number places (ap (λ q. is_queued place.number q.places) c.self.view_is ∙ c.requires.new) in
    subst Ascending (sym (c.in-Ok.ensures.items ∙ inserted_at place places c.count_below-at.result c.count_below-at.ensures.bound c.count_below-at.ensures.split absent)) (ascending_with place places absent c.self.invariant)

pub returns-clause-places : goal.returns-clause-places
returns-clause-places c =
    let place = c.args.place in
    let places = c.self.inside.ring.items in
    let absent : place_of place.number places ≡ None = not_queued place.number places (ap (λ q. is_queued place.number q.places) c.self.view_is ∙ c.requires.new) in
    c.in-Ok.ensures.items ∙ inserted_at place places c.count_below-at.result c.count_below-at.ensures.bound c.count_below-at.ensures.split absent ∙ ap (λ q. with_place place q.places) c.self.view_is
