use Rattle.std.proofs.Common.{ap, subst}
use Rattle.df_model.specs.declared.command.Call.{Call}
use Rattle.df_caller.specs.declared.slip.Slip.{Slip}
use Rattle.df_coord.specs.Asking.{RunsAlone}
use Rattle.df_calls.proofs.calls.CallsCaller.begin.Goals as goal

pub begin_one-requires-clause-holds : goal.begin_one-requires-clause-holds
begin_one-requires-clause-holds c =
    let i = c.self.inside in (
      i.book.now,
      i.shards,
      i.rested.value,
      c.for_one.ensures.holds i.rested.value c.self.invariant.runs,
      subst (λ (k : Call). RunsAlone i.shards c.in-Some.shard k) (ap (λ (s : Slip). s.call) c.deref.ensures) c.in-Some.ensures.0,
    )

pub invariant_of-self : goal.invariant_of-self
invariant_of-self c =
    let i = c.self.inside in record {
      some = c.self.invariant.some;
      words = c.self.invariant.words;
      session = c.self.invariant.session;
      runs = c.begin_one.ensures.holds i.book.now i.shards i.rested.value (c.for_one.ensures.holds i.rested.value c.self.invariant.runs);
    }

pub begin_many-requires-clause-holds : goal.begin_many-requires-clause-holds
begin_many-requires-clause-holds c =
    let i = c.self.inside in (i.book.now, i.shards, i.rested.value, c.for_many.ensures.holds i.rested.value c.self.invariant.runs)

pub invariant_of-self-in-None : goal.invariant_of-self-in-None
invariant_of-self-in-None c =
    let i = c.self.inside in record {
      some = c.self.invariant.some;
      words = c.self.invariant.words;
      session = c.self.invariant.session;
      runs = c.begin_many.ensures.holds i.book.now i.shards i.rested.value (c.for_many.ensures.holds i.rested.value c.self.invariant.runs);
    }
