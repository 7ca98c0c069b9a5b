use Rattle.std.proofs.Common.{subst}
use Rattle.df_desk.specs.States.{DeskState, Served}
use Rattle.df_desk.specs.Runs.{HasServed}
use Rattle.df_desk.proofs.DeskLaws.{at_place, served_state}
use Rattle.df_desk.proofs.desk.Desk.serve.Goals as goal

pub returns : goal.returns
returns c =
    let d = c.self.inside in
    let K = c.args.table.now.keys in
    let after = c.served.new.table.keys in
    let h = subst (λ p. HasServed c.served.result p K after) c.replace-place.ensures.value c.served.ensures in
    subst (λ (s : DeskState). Served s (at_place d.answered d.stalls c.served.result) K after) c.self.view_is
    (served_state d.answered d.stalls c.served.result d.place K after h)
