use Rattle.std.proofs.Common.{ap, ◌∙◌}
use Rattle.df_txqueue.specs.Places.{is_queued}
use Rattle.df_txqueue.proofs.PlaceLaws.{told}
use Rattle.df_txqueue.proofs.queue.TxQueue.is_queued.Goals as goal

pub returns : goal.returns
returns c =
    c.is_some.ensures ∙ told c.args.number c.self.inside.ring.items c.find.result c.find.ensures ∙ ap (λ q. is_queued c.args.number q.places) c.self.view_is
