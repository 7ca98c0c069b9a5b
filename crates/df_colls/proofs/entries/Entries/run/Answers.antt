use Rattle.std.proofs.Common.{◌<◌, drop, length, sym, ap, subst, ◌∙◌, arith}
use Rattle.std.specs.FinMap as map
use Rattle.std.proofs.lemmas.List.{length-drop}
use Rattle.df_colls.specs.Cuts.{flat}
use Rattle.df_colls.specs.Bodies.{entries_of}
use Rattle.df_colls.specs.Runs.{IsFront}
use Rattle.df_colls.proofs.BodyLaws.{entries_are, len_is, front_all}
use Rattle.df_colls.proofs.entries.Entries.run.Goals as goal

pub returns-in-Small-clause-front : goal.returns-in-Small-clause-front
returns-in-Small-clause-front g c =
    let all = entries_are c.self.inside.body c.args.self.now c.self.invariant.0 c.self.view_is ∙ ap entries_of c.in-Small.is in
    front_all (drop c.args.from (map.entries c.args.self.now.contents)) c.run.result.now (c.run.ensures ∙ sym (ap (drop c.args.from) all))

pub returns-in-Small-clause-goes_on : goal.returns-in-Small-clause-goes_on
returns-in-Small-clause-goes_on g c = λ lt.
    let all = len_is c.self.inside.body c.args.self.now c.self.invariant.0 c.self.view_is ∙ ap (λ b. length (entries_of b)) c.in-Small.is in
    let left = ap length c.run.ensures ∙ length-drop c.args.from c.in-Small.items.items in
    omega (arith, lt, all, left)

pub returns-in-Large-clause-front : goal.returns-in-Large-clause-front
returns-in-Large-clause-front g c =
    let all = entries_are c.self.inside.body c.args.self.now c.self.invariant.0 c.self.view_is ∙ ap entries_of c.in-Large.is ∙ sym (ap (λ v. flat v.parts) c.deref.ensures) in
    subst (λ es. IsFront (drop c.args.from es) c.run-in-Large.result.now) (sym all) c.run-in-Large.ensures.front

pub returns-in-Large-clause-goes_on : goal.returns-in-Large-clause-goes_on
returns-in-Large-clause-goes_on g c =
    let all = len_is c.self.inside.body c.args.self.now c.self.invariant.0 c.self.view_is ∙ ap (λ b. length (entries_of b)) c.in-Large.is ∙ sym (ap (λ v. length (flat v.parts)) c.deref.ensures) in
    subst (λ n. c.args.from < n → 0 < length c.run-in-Large.result.now) (sym all) c.run-in-Large.ensures.goes_on
