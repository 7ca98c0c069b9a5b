use Rattle.std.proofs.Common.{sym, subst, inr}
use Rattle.df_print.specs.Writes.{LineStatus}
use Rattle.df_server.specs.Serve.{Opened, door_fault}
use Rattle.df_server.proofs.server.open.Goals as goal

pub returns-in-Ok-bind : goal.returns-in-Ok-bind
returns-in-Ok-bind g c = c.say_and_serve.ensures (g.D.Poller.hall c.args.door.now) c.in-Ok-bind.ensures

pub returns-in-Failed : goal.returns-in-Failed
returns-in-Failed g c =
    Opened.not_bound (record {
      nobody = record { given = c.in-Failed.ensures.0.given; none = c.nobody-in-Failed.ensures.none };
      unbound = c.nobody-in-Failed.ensures.bound;
      cause = inr (subst (λ s. LineStatus door_fault 6 s (g.O.Sink.outflow c.args.out.now) (g.O.Sink.outflow c.tell_fault.new.out)) (sym c.nobody-in-Failed.ensures.status) c.tell_fault.ensures, c.in-Failed.ensures.1);
    })
