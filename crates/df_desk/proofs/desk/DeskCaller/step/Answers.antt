use Rattle.std.proofs.Common.{◌≡◌, sym, ap, subst, ◌∙◌, ◌++◌}
use Rattle.df_model.specs.Replies.{encoding_of}
use Rattle.df_caller.specs.Calling.{Answers}
use Rattle.df_desk.specs.States.{DeskState}
use Rattle.df_desk.specs.Desks.{under_at, due_at, ran_at, said_at}
use Rattle.df_desk.proofs.DeskLaws.{gives_told, ran_stays}
use Rattle.df_desk.proofs.desk.DeskCaller.step.Goals as goal

pub returns-in-Ran : goal.returns-in-Ran
returns-in-Ran c =
    let d = c.self.inside in
    let place = sym c.replace.ensures.value ∙ c.in-Ran.is in
    let g = gives_told d.answered c.push.new.self d.stalls d.place c.replace.new.dest c.in-Ran.ran (ap under_at place) c.push.ensures c.replace.ensures.after in
    record {
      went = subst (λ (s : DeskState). (x : Answers s.calling record { told = c.push.new.self; under = under_at c.replace.new.dest; stalls = d.stalls; due = due_at c.replace.new.dest }) × (c.in-Ran.slip.value.reply ≡ encoding_of x.reply)) c.self.view_is
          (g.0, subst said_at place c.self.invariant ∙ ap encoding_of (sym g.1));
      ran = subst (λ (s : DeskState). c.push.new.self ++ ran_at c.replace.new.dest ≡ s.ran) c.self.view_is (ran_stays d.answered c.push.new.self d.place c.replace.new.dest c.in-Ran.ran (ap ran_at place) c.push.ensures c.replace.ensures.after);
    }

pub returns-in-Unsaid : goal.returns-in-Unsaid
returns-in-Unsaid c =
    let d = c.self.inside in
    let place = sym c.replace.ensures.value ∙ c.in-Unsaid.is in
    let told = c.push-in-Unsaid.new.self in
    let g = gives_told d.answered told d.stalls d.place c.replace.new.dest c.in-Unsaid.ran (ap under_at place) c.push-in-Unsaid.ensures c.replace.ensures.after in
    record {
      went = subst (λ (s : DeskState). Answers s.calling record { told = told; under = under_at c.replace.new.dest; stalls = d.stalls; due = due_at c.replace.new.dest }) c.self.view_is g.0;
      ran = subst (λ (s : DeskState). told ++ ran_at c.replace.new.dest ≡ s.ran) c.self.view_is (ran_stays d.answered told d.place c.replace.new.dest c.in-Unsaid.ran (ap ran_at place) c.push-in-Unsaid.ensures c.replace.ensures.after);
    }
