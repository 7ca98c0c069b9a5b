use Rattle.std.proofs.Common.{◌≡◌, eqb, refl, sym, ap, subst, ◌∙◌}
use Rattle.df_outside.specs.PairLinks.{PairState, pair_flow}
use Rattle.df_sessions.specs.Sessions.{Parted}
use Rattle.df_server.specs.Alone.{ServedAlone, status_for}
use Rattle.df_server.specs.Promise.{INPUT_LIMIT, PipePromise}
use Rattle.df_server.proofs.AloneLaws.{holds_first}
use Rattle.df_server.proofs.PipeLaws.{none_began, pipe_promise}
use Rattle.df_server.proofs.pipe.run.Goals as goal

pub returns-in_default : goal.returns-in_default
returns-in_default g c = none_began (g.S.Source.inflow c.args.input) (g.O.Sink.outflow c.args.out)

pub serve_alone-requires-clause-holds : goal.serve_alone-requires-clause-holds
serve_alone-requires-clause-holds g c κs within = holds_first (pair_flow c.new.result) c.new-2.result.keys c.new-seat.result c.new-seat.ensures refl c.new-2.ensures

pub returns : goal.returns
returns g c =
    let before : PairState = record { input = g.S.Source.inflow c.args.input; output = g.O.Sink.outflow c.args.out; left = INPUT_LIMIT; refused = 0 } in
    let gone = c.end.inside.end in
    let now : PairState = gone.link in
    let p : Parted = c.serve_alone.result in
    let status = c.status_of-status.result in
    let served : ServedAlone (pair_flow before) p = subst (λ f. ServedAlone f p) (c.new-seat.ensures.first_is ∙ ap pair_flow c.new.ensures) c.serve_alone.ensures in
    let flow : p.flow ≡ pair_flow now = sym (ap (λ (x : Parted). x.flow) c.end.view_is) in
    let status_is : status ≡ status_for p.why (eqb now.left 0) = c.status_of-status.ensures ∙ ap (λ b. status_for gone.why b) c.is_spent.ensures ∙ ap (λ (x : Parted). status_for x.why (eqb now.left 0)) c.end.view_is in
    subst (λ x. PipePromise record { status = status; input_before = before.input; input = x; output_before = before.output; output = g.O.Sink.outflow c.into_parts-input.result.1 }) (sym c.into_parts-input.ensures.input)
    (subst (λ x. PipePromise record { status = status; input_before = before.input; input = now.input; output_before = before.output; output = x }) (sym c.into_parts-input.ensures.output)
    (pipe_promise before now p status refl refl c.into_parts-input.ensures.pair served flow status_is))
