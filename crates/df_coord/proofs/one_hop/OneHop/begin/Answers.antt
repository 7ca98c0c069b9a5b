use Rattle.std.proofs.Common.{sym, subst}
use Rattle.df_book.specs.Passes.{Caller}
use Rattle.df_coord.specs.OneHops.{see}
use Rattle.df_coord.specs.Rows.{CallPassed}
use Rattle.df_coord.proofs.StepLaws.{idle-so, passed-none}
use Rattle.df_coord.proofs.one_hop.OneHop.begin.Goals as goal

pub returns-clause-going : goal.returns-clause-going
returns-clause-going g c =
    let o = c.args.self.now in let h = c.requires.going in record {
      some = h.some;
      words = h.words;
      pass = h.pass;
      caller = h.caller;
      bounded = h.bounded;
      post = h.post;
      shards = h.shards;
      stands = (
        idle-so o.state (see o.book.now o.shards o.before.value o.pass o.state (g.P.Post.posting o.post)) c.requires.idle h.stands,
        c.requires.runs,
        c.requires.hash,
        subst (λ (v : Caller). CallPassed o.shards v o.pass c.args.slip.value.call) (sym c.of-self.ensures) (passed-none o.shards o.pass c.args.slip.value.call h.bounded),
      );
    }
