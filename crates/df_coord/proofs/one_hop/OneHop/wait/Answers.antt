use Rattle.std.proofs.Common.{◌≡◌, ◌∙◌, ap, length, refl, sym, subst}
use Rattle.std.specs.Prelude.{None}
use Rattle.std.proofs.lemmas.List.{length-set}
use Rattle.df_model.specs.declared.command.Call.{Call}
use Rattle.df_core.specs.Done.{want_of_memory}
use Rattle.df_hops.specs.Parts.{hash_for}
use Rattle.df_coord.specs.Asking.{Asked, RunsAlone}
use Rattle.df_coord.specs.OneHops.{see}
use Rattle.df_coord.specs.Rows.{CallPassed}
use Rattle.df_coord.specs.declared.state.State.TheVariants as states
use Rattle.df_coord.proofs.StepLaws.{passed-again, ran-again, says-so, took-so}
use Rattle.df_coord.proofs.one_hop.OneHop.wait.Goals as goal

pub returns-in-Ran-clause-stepped : goal.returns-in-Ran-clause-stepped
returns-in-Ran-clause-stepped g c =
    let o = c.args.self.now in let h = c.requires.going in let call : Call = c.args.call.value in let a = c.in-Some.answer in let d = h.stands.1 in
    let t = took-so (g.P.Post.posting o.post) (g.P.Post.posting c.take.new.self) c.args.shard c.args.number a h.stands.0 c.in-Some.ensures.took in
    let heard = c.in-Ran.ensures.heard d.drawer call (subst (λ s. RunsAlone o.shards s call) (sym t.1) d.runs) (subst (Asked d.drawer o.pass call) (sym t.0) d.asked) in (
      call,
      heard.0,
      record { ends = record { was = refl; idle = c.requires.taken }; ran = ran-again o.shards o.before.value d.drawer c.hear.new.pass call a.number heard.0 d.passed heard.1 },
      heard.2,
    )

pub returns-in-Wanted-clause-stepped : goal.returns-in-Wanted-clause-stepped
returns-in-Wanted-clause-stepped g c =
    let o = c.args.self.now in let h = c.requires.going in let call : Call = c.args.call.value in let a = c.in-Some.answer in let d = h.stands.1 in
    let t = took-so (g.P.Post.posting o.post) (g.P.Post.posting c.take.new.self) c.args.shard c.args.number a h.stands.0 c.in-Some.ensures.took in
    let heard = c.in-Wanted.ensures.heard d.drawer call (subst (λ s. RunsAlone o.shards s call) (sym t.1) d.runs) (subst (Asked d.drawer o.pass call) (sym t.0) d.asked) in
    says-so (see o.book.now o.shards o.before.value o.pass (states.Sent c.args.number c.args.shard c.args.hash c.args.call) (g.P.Post.posting o.post))
    (see o.book.now o.shards o.before.value c.hear.new.pass o.state (g.P.Post.posting c.take.new.self)) call c.say_memory.result c.say_memory.ensures
    (record { ends = record { was = refl; idle = c.requires.taken }; ran = ran-again o.shards o.before.value d.drawer c.hear.new.pass call a.number want_of_memory d.passed heard })

pub returns-in-Passed-NoMemory-default-clause-stepped : goal.returns-in-Passed-NoMemory-default-clause-stepped
returns-in-Passed-NoMemory-default-clause-stepped g c =
    let o = c.args.self.now in let h = c.requires.going in let call : Call = c.args.call.value in let a = c.in-Some.answer in let d = h.stands.1 in
    let t = took-so (g.P.Post.posting o.post) (g.P.Post.posting c.take.new.self) c.args.shard c.args.number a h.stands.0 c.in-Some.ensures.took in
    let heard = c.in-Passed-NoMemory-default.ensures.heard d.drawer call (subst (λ s. RunsAlone o.shards s call) (sym t.1) d.runs) (subst (Asked d.drawer o.pass call) (sym t.0) d.asked) in (
      call,
      record { ends = record { was = refl; idle = c.requires.taken }; passed = passed-again o.shards o.before.value d.drawer c.hear.new.pass call a.number d.passed heard.0 },
    )

pub start-requires-clause-going : goal.start-requires-clause-going
start-requires-clause-going g c =
    let o = c.args.self.now in let h = c.requires.going in let call : Call = c.args.call.value in let a = c.in-Some.answer in let d = h.stands.1 in
    let took = c.in-Some.ensures.took in
    let t = took-so (g.P.Post.posting o.post) (g.P.Post.posting c.take.new.self) c.args.shard c.args.number a h.stands.0 took in
    let heard = c.in-Passed-Refused-default.ensures.heard d.drawer call (subst (λ s. RunsAlone o.shards s call) (sym t.1) d.runs) (subst (Asked d.drawer o.pass call) (sym t.0) d.asked) in
    let passed = passed-again o.shards o.before.value d.drawer c.hear.new.pass call a.number d.passed heard.0 in record {
      some = h.some;
      words = h.words;
      pass = c.hear.ensures.pass.0 ∙ h.pass;
      caller = c.hear.ensures.pass.1 ∙ h.caller;
      bounded = passed.went.bounded;
      post = took.book ∙ h.post;
      shards = ap length took.awaits ∙ length-set (g.P.Post.posting o.post).awaits c.args.shard None ∙ h.shards;
      stands = (
        t.2,
        subst (RunsAlone o.shards c.args.shard) (sym heard.1) d.runs,
        subst (λ x. c.args.hash ≡ hash_for c.args.hash x) (sym heard.1) d.hashed,
        subst (CallPassed o.shards o.before.value c.hear.new.pass) (sym heard.1) passed,
      );
    }
