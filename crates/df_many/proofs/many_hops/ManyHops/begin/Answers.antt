use Rattle.std.proofs.Common.{sym, subst}
use Rattle.df_book.specs.Passes.{Caller}
use Rattle.df_coord.specs.Rows.{CallPassed}
use Rattle.df_coord.proofs.StepLaws.{passed-none}
use Rattle.df_many.proofs.LineLaws.{idle-so}
use Rattle.df_many.proofs.many_hops.ManyHops.begin.Goals as goal

pub returns-clause-holds : goal.returns-clause-holds
returns-clause-holds g c =
    let o = c.args.self.now.line in let h = c.requires.holds.0 in let p = c.requires.holds.1 in (
      record {
        some = h.some;
        words = h.words;
        pass = h.pass;
        caller = h.caller;
        bounded = h.bounded;
        room = h.room;
        stands = (
          idle-so o.state o c.requires.idle h.stands,
          record {
            is_call = c.requires.call;
            passed = subst (λ (v : Caller). CallPassed o.shards v o.pass c.args.slip.value.call) (sym c.of-self.ensures) (passed-none o.shards o.pass c.args.slip.value.call h.bounded);
          },
        );
      },
      record { book = p.book; shards = p.shards; matches = p.matches },
    )
