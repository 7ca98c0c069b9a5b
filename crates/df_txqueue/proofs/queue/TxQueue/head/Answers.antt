use Rattle.std.proofs.Common.{◌≡◌, [], subst, arith}
use Rattle.std.proofs.lemmas.Grind.{common_steps}
use Rattle.std.specs.Prelude.{slice_get, MatchOption}
use Rattle.df_txqueue.specs.Places.{IsLeast}
use Rattle.df_txqueue.proofs.PlaceLaws.{least_at}
use Rattle.df_txqueue.proofs.queue.TxQueue.head.Goals as goal

pub returns-clause-oldest : goal.returns-clause-oldest
returns-clause-oldest c =
    let first : c.copied.result ≡ slice_get c.self.inside.ring.items 0 = grind (arith, common_steps) in
    subst (λ q. MatchOption c.copied.result (q.places ≡ []) (λ p. IsLeast p.number q.places)) c.self.view_is
    (least_at c.self.inside.ring.items c.copied.result c.self.invariant first)
