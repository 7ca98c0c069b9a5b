use Rattle.std.proofs.Common.{subst, sym}
use Rattle.df_calls.specs.Calling.{RunsHold}
use Rattle.df_calls.proofs.runs.for_many.Goals as goal

pub returns : goal.returns
returns c = record {
  holds = λ rested h. c.to_many.ensures.holds rested (subst (RunsHold c.args.book.now c.args.shards rested) (sym c.replace-was.ensures.value) h);
  many = c.to_many.ensures.many;
  idle = c.to_many.ensures.idle;
}
