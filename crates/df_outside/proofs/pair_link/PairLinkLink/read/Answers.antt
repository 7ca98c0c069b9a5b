use Rattle.std.proofs.Common.{subst}
use Rattle.df_outside.specs.Links.{LinkReads}
use Rattle.df_outside.specs.PairLinks.{PairState, pair_flow}
use Rattle.df_outside.specs.declared.streams.Got.TheVariants as got
use Rattle.df_outside.proofs.PairLaws.{pair_failed}
use Rattle.df_outside.proofs.pair_link.PairLinkLink.read.Goals as goal

pub returns-in-Failed : goal.returns-in-Failed
returns-in-Failed g c =
    let d = c.self.inside in
    let now = g.S.Source.inflow c.read.new.self in
    let old : PairState = record { input = g.S.Source.inflow d.source; output = g.O.Sink.outflow d.sink; left = d.left; refused = d.refused } in
    subst (λ (s : PairState). LinkReads got.Failed (pair_flow s) (pair_flow (record old { input = now })) c.args.buf.now) c.self.view_is (pair_failed old now c.args.buf.now c.in-Failed.ensures)
