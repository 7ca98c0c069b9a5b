use Rattle.std.proofs.Common.{subst, inl, inr}
use Rattle.df_sessions.specs.AllSessions.{Promises}
use Rattle.df_server.specs.Serve.{Opened}
use Rattle.df_server.proofs.ServeLaws.{has_served}
use Rattle.df_server.proofs.server.say_and_serve.Goals as goal

pub returns-in-Whole : goal.returns-in-Whole
returns-in-Whole g c = λ first stays.
    has_served _ (g.D.Poller.hall c.args.door.now) c.serve.result.asked c.serve.result.entry c.serve.result.count c.serve.result.sessions.items stays c.run_of.ensures.bound c.run_of.ensures.status c.run_of.ensures.sessions
    c.in-Whole.ensures.0 c.serve.ensures.since c.serve.ensures.done (subst (λ K. Promises K c.serve.result.count c.serve.result.sessions.items) c.new.ensures c.serve.ensures.promises) c.serve.ensures.ends c.serve.ensures.late

pub returns-in-Failed : goal.returns-in-Failed
returns-in-Failed g c = λ first stays.
    Opened.not_ready (record {
      nobody = record { given = stays.given; none = c.nobody.ensures.none };
      bound = c.nobody.ensures.bound;
      front = c.in-Failed.ensures.0;
      cause = inl (c.nobody.ensures.status, c.in-Failed.ensures.1);
    })

pub returns-in-NoMemory : goal.returns-in-NoMemory
returns-in-NoMemory g c = λ first stays.
    Opened.not_ready (record {
      nobody = record { given = stays.given; none = c.nobody-in-NoMemory.ensures.none };
      bound = c.nobody-in-NoMemory.ensures.bound;
      front = c.in-NoMemory.ensures;
      cause = inr c.nobody-in-NoMemory.ensures.status;
    })
