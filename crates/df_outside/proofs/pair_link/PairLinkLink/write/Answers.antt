use Rattle.std.proofs.Common.{subst}
use Rattle.df_outside.specs.Links.{LinkWrites}
use Rattle.df_outside.specs.PairLinks.{PairState, pair_flow}
use Rattle.df_outside.proofs.PairLaws.{pair_wrote}
use Rattle.df_outside.proofs.pair_link.PairLinkLink.write.Goals as goal

pub returns : goal.returns
returns g c =
    let d = c.self.inside in
    let now = g.O.Sink.outflow c.write.new.self in
    let old : PairState = record { input = g.S.Source.inflow d.source; output = g.O.Sink.outflow d.sink; left = d.left; refused = d.refused } in
    subst (λ (s : PairState). LinkWrites c.write.result (pair_flow s) (pair_flow (record old { output = now })) c.args.piece.now) c.self.view_is (pair_wrote c.write.result old now c.args.piece.now c.write.ensures)
