use Rattle.std.proofs.Common.{subst, ◌∙◌}
use Rattle.df_print.specs.Writes.{LineStatus}
use Rattle.df_check.proofs.run.tell_refused.Goals as goal

pub returns-in-Ok : goal.returns-in-Ok
returns-in-Ok g c =
    subst (λ l. LineStatus l 3 c.tell.result (g.O.Sink.outflow c.args.out.now) (g.O.Sink.outflow c.tell.new.out)) (c.as_bytes.ensures.value ∙ c.in-Ok.ensures) c.tell.ensures
