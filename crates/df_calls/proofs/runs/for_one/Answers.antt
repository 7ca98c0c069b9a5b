use Rattle.std.proofs.Common.{subst, sym}
use Rattle.df_calls.specs.Calling.{RunsHold}
use Rattle.df_calls.proofs.runs.for_one.Goals as goal

pub returns : goal.returns
returns c = record {
  holds = λ rested h. c.to_one.ensures.holds rested (subst (RunsHold c.args.book.now c.args.shards rested) (sym c.replace-was.ensures.value) h);
  one = c.to_one.ensures.one;
  idle = c.to_one.ensures.idle;
}
