use Rattle.std.proofs.Common.{◌∙◌, arith, false, refl, subst, sym}
use Rattle.df_book.specs.Weights.{head_or}
use Rattle.df_book.specs.Passes.{Caller}
use Rattle.df_caller.specs.Calling.{Calling, Rose, Steps, Waits}
use Rattle.df_caller.specs.declared.caller.Went.{Went}
use Rattle.df_end.specs.Sessions.{SessionHolds}
use Rattle.df_calls.specs.Calling.{CallsView, Ended, RunsHold, calling_of, under_in, view_of}
use Rattle.df_calls.specs.Left.{LeftBy, told_in}
use Rattle.df_calls.proofs.NoteLaws.{ends, pends, session-goes, steps-so}
use Rattle.df_calls.proofs.calls.CallsCaller.step.Goals as goal

pub invariant_of-self : goal.invariant_of-self
invariant_of-self c =
    let i = c.self.inside in
    let p = pends c.stepped-went.result i.book.now i.shards i.rested.value i.runs c.stepped-went.new.runs (sym c.is_pending.ensures ∙ c.if-is_pending.true)
    (c.stepped-went.ensures i.book.now i.shards i.rested.value c.self.invariant.runs) in record {
      some = c.self.invariant.some;
      words = c.self.invariant.words;
      session = c.self.invariant.session;
      runs = p.1;
    }

pub returns-then-is_pending-clause-went : goal.returns-then-is_pending-clause-went
returns-then-is_pending-clause-went c =
    let i = c.self.inside in
    let p = pends c.stepped-went.result i.book.now i.shards i.rested.value i.runs c.stepped-went.new.runs (sym c.is_pending.ensures ∙ c.if-is_pending.true)
    (c.stepped-went.ensures i.book.now i.shards i.rested.value c.self.invariant.runs) in
    let now : Calling = record {
      told = told_in i.rows.rows;
      under = under_in c.stepped-went.new.runs;
      stalls = c.saturating_add-self-inside.result;
      due = false;
    } in
    let rose : Rose i.stalls c.saturating_add-self-inside.result = omega (arith, c.saturating_add-self-inside.ensures) in
    let waits : Waits (calling_of (view_of i)) now = record { told = refl; under = p.2; rose = rose; early = refl } in
    subst (λ (v : CallsView). Steps c.stepped-went.result (calling_of v) now) c.self.view_is
    (subst (λ (w : Went). Steps w (calling_of (view_of i)) now) (sym p.0) waits)

pub pass_of-requires : goal.pass_of-requires
pass_of-requires c =
    let i = c.self.inside in
    let e = ends c.stepped-went.result i.book.now i.shards i.rested.value i.runs c.stepped-went.new.runs (sym c.is_pending.ensures ∙ c.if-is_pending.false)
    (c.stepped-went.ensures i.book.now i.shards i.rested.value c.self.invariant.runs) in
    record { holds = (i.book.now, i.shards, _, e.holds) }

pub noted-requires : goal.noted-requires
noted-requires c =
    let i = c.self.inside in
    let e = ends c.stepped-went.result i.book.now i.shards i.rested.value i.runs c.stepped-went.new.runs (sym c.is_pending.ensures ∙ c.if-is_pending.false)
    (c.stepped-went.ensures i.book.now i.shards i.rested.value c.self.invariant.runs) in
    record {
      left = (
        e.call,
        e.more,
        subst (λ (u : Caller). LeftBy c.stepped-went.result i.shards i.rested.value u e.call e.more) (sym (c.pass_of.ensures i.rested.value)) e.left,
      );
    }

pub invariant_of-self-2 : goal.invariant_of-self-2
invariant_of-self-2 c =
    let i = c.self.inside in
    let e = ends c.stepped-went.result i.book.now i.shards i.rested.value i.runs c.stepped-went.new.runs (sym c.is_pending.ensures ∙ c.if-is_pending.false)
    (c.stepped-went.ensures i.book.now i.shards i.rested.value c.self.invariant.runs) in
    let l = c.noted.ensures.left in record {
      some = c.self.invariant.some;
      words = c.self.invariant.words;
      session = subst (λ (v : Caller). SessionHolds i.shards (head_or 0 v.sessions) v c.noted.new.rows.rows) (sym c.noted.ensures.rested)
          (session-goes c.noted.result i.shards i.rested.value c.pass_of.result.now l.0 i.rows.rows l.1 c.noted.new.rows.rows c.self.invariant.some c.self.invariant.session l.2 l.3);
      runs = subst (λ (v : Caller). RunsHold i.book.now i.shards v c.stepped-went.new.runs) (sym (c.noted.ensures.rested ∙ c.pass_of.ensures i.rested.value)) e.holds;
    }

pub returns-clause-went : goal.returns-clause-went
returns-clause-went c =
    let i = c.self.inside in
    let e = ends c.stepped-went.result i.book.now i.shards i.rested.value i.runs c.stepped-went.new.runs (sym c.is_pending.ensures ∙ c.if-is_pending.false)
    (c.stepped-went.ensures i.book.now i.shards i.rested.value c.self.invariant.runs) in
    let l = c.noted.ensures.left in
    let now : Calling = record {
      told = told_in c.noted.new.rows.rows;
      under = under_in c.stepped-went.new.runs;
      stalls = i.stalls;
      due = false;
    } in
    subst (λ (v : CallsView). Steps c.noted.result (calling_of v) now) c.self.view_is
    (steps-so i.book.now i.shards i.rested.value c.pass_of.result.now i.runs c.stepped-went.new.runs i.rows.rows c.noted.new.rows.rows i.stalls
    (c.pass_of.ensures i.rested.value) c.noted.result
    (subst (λ (w : Went). Ended w i.book.now i.shards i.rested.value i.runs c.stepped-went.new.runs) (sym c.noted.ensures.went) e) l.0 l.1 l.2 l.3)
