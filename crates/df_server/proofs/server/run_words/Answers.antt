use Rattle.std.proofs.Common.{refl, sym, subst, inl, inr}
use Rattle.df_print.specs.Writes.{LineStatus}
use Rattle.df_server.specs.Promise.{usage}
use Rattle.df_server.proofs.server.run_words.Goals as goal

pub returns-in-None : goal.returns-in-None
returns-in-None g c =
    inl (
      c.in-None.ensures,
      record {
        nobody = record { given = refl; none = c.nobody.ensures.none };
        unbound = c.nobody.ensures.bound;
        line = subst (λ s. LineStatus usage 2 s (g.O.Sink.outflow c.args.out.now) (g.O.Sink.outflow c.refuse.new.out)) (sym c.nobody.ensures.status) c.refuse.ensures;
      },
    )

pub returns-in-Some : goal.returns-in-Some
returns-in-Some g c = inr ((c.in-Some.port, c.in-Some.ensures), c.open.ensures)
