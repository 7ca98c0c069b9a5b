use Rattle.std.proofs.Common.{subst, ◌∙◌}
use Rattle.df_dashtable.specs.Tables.{Sends}
use Rattle.df_dashtable.proofs.StepLaws.{step_touches, step_first}
use Rattle.df_dashtable.proofs.SendLaws.{sends_more}
use Rattle.df_dashtable.proofs.table.DashTable.seat.Goals as goal

pub returns-in-Some-clause-same : goal.returns-in-Some-clause-same
returns-in-Some-clause-same g c = λ key.
    let t = c.rounds.self in
    (step_touches t c.touch_at.new.self c.segment_of-s.result c.in-Some.b c.segment_of-s.ensures.within c.in-Some.ensures.room.within c.in_ok-touch_at-in-Some.ensures.ok).same key
    ∙ c.rounds.invariant.same key

pub returns-in-Some-clause-sends : goal.returns-in-Some-clause-sends
returns-in-Some-clause-sends g c =
    sends_more (g.H.Hook.takes c.args.hook.now) c.rounds.invariant.sends
    (subst (λ b. Sends b (g.H.Hook.holds c.rounds.hook) (g.H.Hook.holds c.touch_at.new.hook) c.rounds.self c.touch_at.new.self) c.rounds.invariant.takes c.touch_at.ensures.sends)

pub returns-in_err-widen-in-None-clause-sends : goal.returns-in_err-widen-in-None-clause-sends
returns-in_err-widen-in-None-clause-sends g c =
    sends_more (g.H.Hook.takes c.args.hook.now) c.rounds.invariant.sends
    (subst (λ b. Sends b (g.H.Hook.holds c.rounds.hook) (g.H.Hook.holds c.widen.new.hook) c.rounds.self c.widen.new.self) c.rounds.invariant.takes c.widen.ensures.sends)

pub rounds-preserved : goal.rounds-preserved
rounds-preserved g c = record {
  same = λ key. c.widen.ensures.same key ∙ c.rounds.invariant.same key;
  version = c.widen.ensures.version ∙ c.rounds.invariant.version;
  takes = c.widen.ensures.takes ∙ c.rounds.invariant.takes;
  sends = sends_more (g.H.Hook.takes c.args.hook.now) c.rounds.invariant.sends
      (subst (λ b. Sends b (g.H.Hook.holds c.rounds.hook) (g.H.Hook.holds c.widen.new.hook) c.rounds.self c.widen.new.self) c.rounds.invariant.takes c.widen.ensures.sends);
}

pub returns-in-Some-clause-room : goal.returns-in-Some-clause-room
returns-in-Some-clause-room g c =
    step_first c.rounds.self c.touch_at.new.self c.segment_of-s.result c.in-Some.b c.segment_of-s.ensures.within c.in-Some.ensures.room.within
    c.args.hash c.in-Some.b c.in_ok-touch_at-in-Some.ensures.ok c.in-Some.ensures
